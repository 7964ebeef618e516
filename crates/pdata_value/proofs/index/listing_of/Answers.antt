use Rattle.std.proofs.Common.{◌≡◌, ℕ, ◌<◌, ◌+◌, List, [], ◌∷◌, ◌++◌, length, take, sym, subst, arith}
use Rattle.pdata_value.specs.Index.{Gains, Lists}
use Rattle.pdata_value.proofs.Positions.{lists-more, take-next}
use Rattle.pdata_value.proofs.index.listing_of.Goals as goal

pub loop-key-preserved : goal.loop-key-preserved
loop-key-preserved c =
    let keys = c.args.keys.now in
    let i = c.loop-key.key-index in
    let key = c.key-item.result in
    let within : i < length keys = omega arith in
    let more : take (i + 1) keys ≡ take i keys ++ key ∷ [] = take-next keys i key within c.key-item.is in
    let gains = subst (λ (k : List ℕ). Gains c.loop-key.index k _ c.add_key.new.index) c.as_str.ensures.value c.in_ok-add_key.ensures in
    subst (λ (ks : List (List ℕ)). Lists c.add_key.new.index ks) (sym more)
    (lists-more c.loop-key.index c.add_key.new.index (take i keys) key _ c.loop-key.invariant gains)
