-- Places in a text.
use Rattle.std.specs.Prelude.{ℕ, ◌+◌, Bool, ◌||◌, ◌==◌, List, drop, slice_index}
use Rattle.std.specs.List.{prefix_len}

-- how many bytes are behind it, and the bytes that are left
pub record Rest : Type 0 where
  pub at : ℕ
  pub left : List ℕ

-- the next byte, and 0 at the end, which no rule of the grammar takes
abbrev pub head : Rest → ℕ
head r = slice_index r.left 0

-- so many bytes further
abbrev pub past : ℕ → Rest → Rest
past count r = record { at = r.at + count; left = drop count r.left }

-- behind the bytes of a kind
abbrev pub behind : (ℕ → Bool) → Rest → Rest
behind kind r = past (prefix_len kind r.left) r

-- the four blanks
abbrev pub is_blank : ℕ → Bool
is_blank b = b == 32 || b == 9 || b == 10 || b == 13

-- what stands behind the blanks
abbrev pub blanks : Rest → Rest
blanks r = behind is_blank r
