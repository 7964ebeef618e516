-- How many records, elements and values a payload may have, and how deep a value may be.
use Rattle.std.specs.Prelude.{ℕ, zero, suc, ◌+◌, nat_lt, cond, Ok}
use Rattle.otlp_json.specs.declared.counts.Counts.{Counts}
use Rattle.otlp_json.specs.declared.error.PayloadKind.TheVariants.{TooMany, TooDeep}
use Rattle.otlp_json.specs.Reads.{Read, wrong, ◌>>=◌}

-- so many log records
abbrev pub most_records : ℕ
most_records = 32768

-- so many resource and scope elements together
abbrev pub most_holders : ℕ
most_holders = 32768

-- so many values, among them each pair without one
abbrev pub most_values : ℕ
most_values = 500000

-- so many levels of a value
abbrev pub most_levels : ℕ
most_levels = 64

-- so many containers of JSON in one another
abbrev pub most_containers : ℕ
most_containers = 300

-- nothing is counted yet
abbrev pub none_counted : Counts
none_counted = record { records = 0; holders = 0; values = 0 }

-- one more log record at a place
abbrev pub one_record : ℕ → Counts → Read Counts
one_record at n = cond (nat_lt n.records most_records) (Ok (record n { records = n.records + 1 }))
    (wrong TooMany at)

-- one more resource or scope element at a place
abbrev pub one_holder : ℕ → Counts → Read Counts
one_holder at n = cond (nat_lt n.holders most_holders) (Ok (record n { holders = n.holders + 1 }))
    (wrong TooMany at)

-- a level, where so many may stand from here on
abbrev pub level : ℕ → ℕ → Counts → Read Counts
level zero at n = wrong TooDeep at
level (suc levels) at n = Ok n

-- one more value at a place, where so many levels of values may stand from here on
abbrev pub one_value : ℕ → ℕ → Counts → Read Counts
one_value levels at n =
    cond (nat_lt n.values most_values) (Ok (record n { values = n.values + 1 })) (wrong TooMany at)
    >>= level levels at
