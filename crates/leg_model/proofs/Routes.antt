-- The account of a routing connector notes its first errors.
use Rattle.std.proofs.Common.{List, [], ◌∷◌, Ok}
use Rattle.conf_json.specs.Account.{Account}
use Rattle.conf_json.specs.declared.settings.RouteSettings.{RouteSettings}
use Rattle.leg_model.proofs.Accounts.{GrowsIn, grows-more, same-grows, truth-grows}
use Rattle.ottl_eval.specs.Stages.{stage}
use Rattle.ottl_eval.specs.Values.{holds}
use Rattle.pdata_tree.specs.Operations.{TreeOps}
use Rattle.pdata_tree.specs.declared.path.PathTo.{PathTo}
use Rattle.pdata_tree.specs.declared.place.Place.{Place}
use Rattle.proc_targets.specs.Judging.{◌>>=◌, no_pairs}
use Rattle.routing_conn.specs.Meaning.{Judge, hits, judges, matches, parted, routed, routed_by, row_gives, spot_of}

module _ {T : Type 0} (ops : TreeOps T PathTo) where
  hits-grow : (judge : Judge) (tree : T) (ps : List Place) (a : Account) → GrowsIn a (hits ops judge tree ps a)
  hits-grow judge tree [] a = same-grows a
  hits-grow judge tree (p ∷ ps) a =
      grows-more a (matches ops judge tree p a)
      (λ first. hits ops judge tree ps first.1 >>= λ others. Ok (first.0 ∷ others.0, others.1))
      (truth-grows (spot_of judge p) judge.index (holds ops judge.row.condition.expr (stage tree judge.row.context p no_pairs)) a)
      (λ first. grows-more first.1 (hits ops judge tree ps first.1) (λ others. Ok (first.0 ∷ others.0, others.1))
      (hits-grow judge tree ps first.1) (λ others. same-grows others.1))

  row-grows : (judge : Judge) (tree : T) (a : Account) → GrowsIn a (row_gives ops judge tree a)
  row-grows judge tree a =
      grows-more a (hits ops judge tree (ops.targets tree judge.row.context) a) (λ hit. Ok (parted ops judge.row hit.0 tree, hit.1))
      (hits-grow judge tree (ops.targets tree judge.row.context) a) (λ hit. same-grows hit.1)

  rows-grow : (js : List Judge) (tree : T) (a : Account) → GrowsIn a (routed_by ops js tree a)
  rows-grow [] tree a = same-grows a
  rows-grow (j ∷ js) tree a =
      grows-more a (row_gives ops j tree a)
      (λ first. routed_by ops js first.0.1 first.1
      >>= λ others. Ok (record { rows = first.0.0 ∷ others.0.rows; rest = others.0.rest }, others.1))
      (row-grows j tree a)
      (λ first. grows-more first.1 (routed_by ops js first.0.1 first.1)
      (λ others. Ok (record { rows = first.0.0 ∷ others.0.rows; rest = others.0.rest }, others.1))
      (rows-grow js first.0.1 first.1) (λ others. same-grows others.1))

  pub route-grows : (settings : RouteSettings) (tree : T) (a : Account) → GrowsIn a (routed ops settings tree a)
  route-grows settings tree a = rows-grow (judges settings.error_mode 0 settings.table) tree a
