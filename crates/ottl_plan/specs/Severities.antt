-- The names of severities, and their numbers (the field `severity_number` of OTLP's log records).
use Rattle.std.specs.Prelude.{ℕ, cond, codes, ℤ, pos, List, Option, Some, None}
use Rattle.std.specs.Str.{bytes_eq}

-- of severities below information
unfoldable pub low_severity : List ℕ → Option ℤ
low_severity name =
    cond (bytes_eq name (codes "SEVERITY_NUMBER_UNSPECIFIED")) (Some (pos 0))
    (cond (bytes_eq name (codes "SEVERITY_NUMBER_TRACE")) (Some (pos 1))
    (cond (bytes_eq name (codes "SEVERITY_NUMBER_TRACE2")) (Some (pos 2))
    (cond (bytes_eq name (codes "SEVERITY_NUMBER_TRACE3")) (Some (pos 3))
    (cond (bytes_eq name (codes "SEVERITY_NUMBER_TRACE4")) (Some (pos 4))
    (cond (bytes_eq name (codes "SEVERITY_NUMBER_DEBUG")) (Some (pos 5))
    (cond (bytes_eq name (codes "SEVERITY_NUMBER_DEBUG2")) (Some (pos 6))
    (cond (bytes_eq name (codes "SEVERITY_NUMBER_DEBUG3")) (Some (pos 7))
    (cond (bytes_eq name (codes "SEVERITY_NUMBER_DEBUG4")) (Some (pos 8)) None))))))))

-- of information and warnings
unfoldable pub middle_severity : List ℕ → Option ℤ
middle_severity name =
    cond (bytes_eq name (codes "SEVERITY_NUMBER_INFO")) (Some (pos 9))
    (cond (bytes_eq name (codes "SEVERITY_NUMBER_INFO2")) (Some (pos 10))
    (cond (bytes_eq name (codes "SEVERITY_NUMBER_INFO3")) (Some (pos 11))
    (cond (bytes_eq name (codes "SEVERITY_NUMBER_INFO4")) (Some (pos 12))
    (cond (bytes_eq name (codes "SEVERITY_NUMBER_WARN")) (Some (pos 13))
    (cond (bytes_eq name (codes "SEVERITY_NUMBER_WARN2")) (Some (pos 14))
    (cond (bytes_eq name (codes "SEVERITY_NUMBER_WARN3")) (Some (pos 15))
    (cond (bytes_eq name (codes "SEVERITY_NUMBER_WARN4")) (Some (pos 16)) None)))))))

-- of errors
unfoldable pub high_severity : List ℕ → Option ℤ
high_severity name =
    cond (bytes_eq name (codes "SEVERITY_NUMBER_ERROR")) (Some (pos 17))
    (cond (bytes_eq name (codes "SEVERITY_NUMBER_ERROR2")) (Some (pos 18))
    (cond (bytes_eq name (codes "SEVERITY_NUMBER_ERROR3")) (Some (pos 19))
    (cond (bytes_eq name (codes "SEVERITY_NUMBER_ERROR4")) (Some (pos 20))
    (cond (bytes_eq name (codes "SEVERITY_NUMBER_FATAL")) (Some (pos 21))
    (cond (bytes_eq name (codes "SEVERITY_NUMBER_FATAL2")) (Some (pos 22))
    (cond (bytes_eq name (codes "SEVERITY_NUMBER_FATAL3")) (Some (pos 23))
    (cond (bytes_eq name (codes "SEVERITY_NUMBER_FATAL4")) (Some (pos 24)) None)))))))

-- what is found first
abbrev pub or_else : Option ℤ → Option ℤ → Option ℤ
or_else None other = other
or_else (Some number) other = Some number

-- the number of a severity's name
abbrev pub severity_of : List ℕ → Option ℤ
severity_of name = or_else (low_severity name) (or_else (middle_severity name) (high_severity name))
