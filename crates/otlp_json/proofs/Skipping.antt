-- A container is passed, of which nothing is read.
use Rattle.std.proofs.Common.{◌≡◌, ◌∙◌, ℕ, ◌-◌, ◌<◌, Bool, true, false, Ok, List, [], ◌∷◌, ◌++◌, length, ap, arith}
use Rattle.json_text.specs.Place.{Rest, blanks}
use Rattle.json_text.specs.Reading.{Reads, make, comma_or, member, value}
use Rattle.json_text.specs.declared.json.JsonKind.TheVariants as kinds
use Rattle.json_text.proofs.Values.{value-list, value-object}
use Rattle.otlp_json.specs.declared.direct.Direct.{Direct}
use Rattle.otlp_json.specs.Direct.{Opens, Passes, key_of}
use Rattle.otlp_json.proofs.Passing.{Found, Found-opens, Found-more, Found-all, member-by_key}

-- how far the container is passed that begins at a place
pub record Skipped {X : Type 0} (one : Rest → Reads X) (close : ℕ) (old : Direct) (goes : Bool) (now : Direct) : Type 0 where
  pub found : List X
  pub reads : Found one close old.cursor found goes now.cursor
  pub counts : now.counts ≡ old.counts
  pub less : length now.cursor.left < length old.cursor.left

module _ {X : Type 0} (one : Rest → Reads X) (close : ℕ) where
  pub Skipped-begin : (opening depth : ℕ) (old new : Direct) (goes : Bool) → Opens opening close depth old goes new → length new.cursor.left < length old.cursor.left
      → Skipped one close old goes new
  Skipped-begin opening depth old new goes opens less = record {
    found = [];
    reads = Found-opens one close opening depth old new goes opens less;
    counts = opens.counts;
    less = less;
  }

  pub Skipped-more : (old here mid after : Direct) (x : X) (goes : Bool) → Skipped one close old true here → one here.cursor ≡ Ok (x, mid.cursor) → mid.counts ≡ here.counts
      → comma_or close (blanks mid.cursor) ≡ Ok (goes, after.cursor) → after.counts ≡ mid.counts → length after.cursor.left < length here.cursor.left
      → Skipped one close old goes after
  Skipped-more old here mid after x goes s read counts comma same less = record {
    found = s.found ++ x ∷ [];
    reads = Found-more one close old.cursor s.found here.cursor mid.cursor after.cursor x goes s.reads read comma less;
    counts = same ∙ counts ∙ s.counts;
    less = omega (arith, s.less, less);
  }

-- the values passed of a list
abbrev pub ItemsSkipped : ℕ → Direct → Bool → Direct → Type 0
ItemsSkipped depth old goes now = Skipped (value (depth - 1)) 93 old goes now

-- the members passed of an object
abbrev pub MembersSkipped : ℕ → Direct → Bool → Direct → Type 0
MembersSkipped depth old goes now = Skipped (member (value (depth - 1))) 125 old goes now

module _ (depth : ℕ) (old : Direct) where
  pub items-more : (here mid after : Direct) (goes : Bool) → ItemsSkipped depth old true here → Passes (depth - 1) here mid
      → comma_or 93 (blanks mid.cursor) ≡ Ok (goes, after.cursor) → after.counts ≡ mid.counts → length after.cursor.left < length here.cursor.left
      → ItemsSkipped depth old goes after
  items-more here mid after goes s p comma same less =
      Skipped-more (value (depth - 1)) 93 old here mid after p.json goes s p.spelled p.counts comma same less

  pub members-more : (here keyed mid after : Direct) (key : List ℕ) (goes : Bool) → MembersSkipped depth old true here → key_of here.cursor ≡ Ok (key, keyed.cursor)
      → keyed.counts ≡ here.counts → Passes (depth - 1) keyed mid
      → comma_or 125 (blanks mid.cursor) ≡ Ok (goes, after.cursor) → after.counts ≡ mid.counts → length after.cursor.left < length here.cursor.left
      → MembersSkipped depth old goes after
  members-more here keyed mid after key goes s is_key counts p comma same less =
      Skipped-more (member (value (depth - 1))) 125 old here mid after (key, p.json) goes s
      (member-by_key (value (depth - 1)) key p.json keyed.cursor mid.cursor p.spelled here.cursor is_key) (p.counts ∙ counts) comma same less

  pub list-passes : (opened now : Direct) (begun : Bool) → Opens 91 93 depth old begun opened → ItemsSkipped depth old false now → Passes depth old now
  list-passes opened now begun opens s = record {
    json = record { at = old.cursor.at; kind = kinds.List s.found };
    spelled = value-list depth old.cursor opens.first opens.deep
        ∙ ap (make old.cursor kinds.List) (Found-all (value (depth - 1)) 93 old.cursor s.found now.cursor s.reads);
    counts = s.counts;
  }

  pub object-passes : (opened now : Direct) (begun : Bool) → Opens 123 125 depth old begun opened → MembersSkipped depth old false now → Passes depth old now
  object-passes opened now begun opens s = record {
    json = record { at = old.cursor.at; kind = kinds.Object s.found };
    spelled = value-object depth old.cursor opens.first opens.deep
        ∙ ap (make old.cursor kinds.Object) (Found-all (member (value (depth - 1))) 125 old.cursor s.found now.cursor s.reads);
    counts = s.counts;
  }
