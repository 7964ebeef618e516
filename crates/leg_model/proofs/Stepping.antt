-- Steps of a leg leave what is meant, and come to an end.
use Rattle.std.proofs.Common.{◌≡◌, ◌∙◌, ◌+◌, ℕ, zero, suc, List, [], ◌∷◌, ◌++◌, length, drop, Result, Ok, Err, refl, sym, ap, arith, append-nil, add-zero}
use Rattle.conf_json.specs.Account.{Account}
use Rattle.conf_json.specs.declared.account.Note.{Note}
use Rattle.conf_json.specs.declared.settings.FilterSettings.{FilterSettings}
use Rattle.conf_json.specs.declared.settings.Group.{Group}
use Rattle.conf_json.specs.declared.settings.ProcessorSettings.{ProcessorSettings}
use Rattle.conf_json.specs.declared.settings.ProcessorSettings.TheVariants.{Transform, Filter, GroupByAttrs}
use Rattle.conf_json.specs.declared.settings.RouteSettings.{RouteSettings}
use Rattle.conf_json.specs.declared.settings.TransformSettings.{TransformSettings}
use Rattle.filter_proc.proofs.Steps as filter_law
use Rattle.filter_proc.specs.Steps as filter
use Rattle.leg_model.specs.Course.{◌>>=◌, Course, Failure, after_connector, after_processor, by_connectors, by_processor, by_processors, ended, left_of, numbered, start}
use Rattle.leg_model.specs.Parts.{Parts}
use Rattle.leg_model.specs.Steps.{LegState, Standing, at_connectors, at_processors, behind, by_all, by_groups, entered, entering, ending, filter_came, filtering, finished, grouping, leg_step, leg_steps, over, rest_of, routing, transform_came, transforming}
use Rattle.leg_model.specs.declared.LegNote.{LegNote}
use Rattle.pdata_tree.specs.Operations.{TreeOps}
use Rattle.pdata_tree.specs.declared.path.PathTo.{PathTo}
use Rattle.pdata_tree.specs.declared.place.Context.TheVariants.{Resource}
use Rattle.pdata_tree.specs.declared.place.Place.{Place}
use Rattle.proc_targets.specs.Stepping.{Stepped, On, End, Fail}
use Rattle.routing_conn.specs.Meaning.{routed}
use Rattle.transform_proc.proofs.Steps as transform_law
use Rattle.transform_proc.specs.Meaning.{groups_run, taken}
use Rattle.transform_proc.specs.Steps as transform

drop-all : {X : Type 0} (xs : List X) → drop (length xs) xs ≡ []
drop-all [] = refl
drop-all (x ∷ xs) = drop-all xs

module _ {T : Type 0} (ops : TreeOps T PathTo) (group : List (List ℕ) → T → T) where
  one_more : (part count : ℕ) → suc part + count ≡ part + suc count
  one_more part count = omega arith

  binds_on : (r : Result (Course T) Failure) (f g h : Course T → Result (Course T) Failure)
      → ((c : Course T) → f c ≡ (g c >>= h)) → (r >>= f) ≡ (r >>= g >>= h)
  binds_on (Ok c) f g h same = same c
  binds_on (Err e) f g h same = refl

  by_all-is : (part : ℕ) (ss : List ProcessorSettings) (cs : List RouteSettings) (c : Course T)
      → by_all ops group part ss cs c ≡ (by_processors ops group part ss c >>= by_connectors ops group (part + length ss) cs)
  by_all-is part [] cs c = ap (λ n. by_connectors ops group n cs c) (sym (add-zero part))
  by_all-is part (s ∷ ss) cs c =
      binds_on (by_processor ops group part s c) (by_all ops group (suc part) ss cs) (by_processors ops group (suc part) ss)
      (by_connectors ops group (part + length (s ∷ ss)) cs)
      (λ d. by_all-is (suc part) ss cs d
      ∙ ap (λ n. by_processors ops group (suc part) ss d >>= by_connectors ops group n cs) (one_more part (length ss)))

  module _ (parts : Parts) where
    rest-connectors : (taken part : ℕ) (cs : List RouteSettings) (c : Course T)
        → rest_of ops group parts (at_connectors ops group taken part cs c) ≡ ended ops taken (by_connectors ops group part cs c)
    rest-connectors taken part [] c = refl
    rest-connectors taken part (s ∷ ss) c = refl

    -- a processor that leaves the tree and the account as they are leaves the course
    passed : (part : ℕ) (s : TransformSettings) (c : Course T)
        → after_processor ops group part (Transform s) c (Ok (c.tree, c.account)) ≡ Ok c
    passed part s c =
        ap (λ (ns : List LegNote). Ok (record c { notes = ns; filtered = c.filtered + 0 }))
        (ap (λ (ns : List Note). c.notes ++ numbered part ns) (drop-all c.account.notes) ∙ append-nil c.notes)
        ∙ ap (λ n. Ok (record c { filtered = n })) (add-zero c.filtered)

    without_groups : (gs : List Group) (taken part : ℕ) (s : TransformSettings) (ss : List ProcessorSettings)
        (cs : List RouteSettings) (c : Course T) → s.log_statements ≡ gs
        → rest_of ops group parts (at_processors ops group taken (suc part) ss cs c) ≡ ended ops taken (by_all ops group (suc part) ss cs c)
        → rest_of ops group parts (by_groups gs (at_processors ops group taken (suc part) ss cs c)
        (transforming s (transform.state_of ops s.log_statements c.tree c.account) c
        (record { taken = taken; part = part; processors = ss; connectors = cs })))
        ≡ ended ops taken (by_all ops group part (Transform s ∷ ss) cs c)
    without_groups [] taken part s ss cs c is inv =
        inv
        ∙ ap (λ (r : Result (Course T) Failure). ended ops taken (r >>= by_all ops group (suc part) ss cs))
        (sym (ap (λ (gs : List Group). after_processor ops group part (Transform s) c
        (groups_run ops s.error_mode 0 gs c.tree c.account)) is ∙ passed part s c))
    without_groups (g ∷ gs) taken part s ss cs c is inv =
        ap (λ (r : Result (T × Account) Note). ended ops taken
        (after_processor ops group part (Transform s) c r >>= by_all ops group (suc part) ss cs))
        (transform_law.begins_whole ops s c.tree c.account)

    rest-processors : (taken part : ℕ) (ss : List ProcessorSettings) (cs : List RouteSettings) (c : Course T)
        → rest_of ops group parts (at_processors ops group taken part ss cs c) ≡ ended ops taken (by_all ops group part ss cs c)
    rest-processors taken part [] cs c = rest-connectors taken part cs c
    rest-processors taken part (Transform s ∷ ss) cs c =
        without_groups s.log_statements taken part s ss cs c refl (rest-processors taken (suc part) ss cs c)
    rest-processors taken part (Filter s ∷ ss) cs c =
        ap (λ (r : Result (T × Account) Note). ended ops taken
        (after_processor ops group part (Filter s) c r >>= by_all ops group (suc part) ss cs))
        (filter_law.begins_whole ops s c.tree c.account)
    rest-processors taken part (GroupByAttrs s ∷ ss) cs c = refl

    rest-behind : (at : Standing) (r : Result (Course T) Failure) → rest_of ops group parts (behind ops group at r) ≡ finished ops group at r
    rest-behind at (Ok c) = rest-processors at.taken (suc at.part) at.processors at.connectors c
    rest-behind at (Err f) = refl

    -- Each step leaves what was meant before it.

    none_before : (n : ℕ) → 0 + n ≡ n
    none_before n = omega arith

    rest-entered : (tree : T) (places : List Place) → rest_of ops group parts (entered ops group parts tree places) ≡ left_of ops group parts tree places
    rest-entered tree [] = refl
    rest-entered tree (p ∷ ps) =
        rest-processors (ops.records tree) 0 parts.processors parts.connectors (start tree)
        ∙ ap (ended ops (ops.records tree))
        (by_all-is 0 parts.processors parts.connectors (start tree)
        ∙ ap (λ n. by_processors ops group 0 parts.processors (start tree) >>= by_connectors ops group n parts.connectors)
        (none_before (length parts.processors)))

    rest-transform : (s : TransformSettings) (c : Course T) (at : Standing) (meant : Result (T × Account) Note)
        (came : Stepped (transform.State T)) → transform.Leaves ops s.error_mode meant came
        → rest_of ops group parts (transform_came ops group s c at came) ≡ finished ops group at (after_processor ops group at.part (Transform s) c meant)
    rest-transform s c at meant (On run) is = ap (λ r. finished ops group at (after_processor ops group at.part (Transform s) c r)) is
    rest-transform s c at meant (End run) is =
        rest-behind at (after_processor ops group at.part (Transform s) c (Ok (run.tree, run.account)))
        ∙ sym (ap (λ r. finished ops group at (after_processor ops group at.part (Transform s) c r)) is)
    rest-transform s c at meant (Fail run note) is =
        rest-behind at (after_processor ops group at.part (Transform s) c (Err note))
        ∙ sym (ap (λ r. finished ops group at (after_processor ops group at.part (Transform s) c r)) is)

    rest-filter : (s : FilterSettings) (c : Course T) (at : Standing) (meant : Result (T × Account) Note)
        (came : Stepped (filter.State T)) → filter.Leaves ops s meant came
        → rest_of ops group parts (filter_came ops group s c at came) ≡ finished ops group at (after_processor ops group at.part (Filter s) c meant)
    rest-filter s c at meant (On run) is = ap (λ r. finished ops group at (after_processor ops group at.part (Filter s) c r)) is
    rest-filter s c at meant (End run) is =
        rest-behind at (after_processor ops group at.part (Filter s) c (Ok (run.tree, run.account)))
        ∙ sym (ap (λ r. finished ops group at (after_processor ops group at.part (Filter s) c r)) is)
    rest-filter s c at meant (Fail run note) is =
        rest-behind at (after_processor ops group at.part (Filter s) c (Err note))
        ∙ sym (ap (λ r. finished ops group at (after_processor ops group at.part (Filter s) c r)) is)

    pub rest-step : (s : LegState T) → rest_of ops group parts (leg_step ops group parts s) ≡ rest_of ops group parts s
    rest-step (entering tree) = rest-entered tree (ops.targets tree Resource)
    rest-step (transforming s run c at) =
        rest-transform s c at (transform.rest_of ops s.error_mode run) (transform.transform_step ops s.error_mode run)
        (transform_law.adds_up ops s.error_mode run)
    rest-step (filtering s run c at) =
        rest-filter s c at (filter.rest_of ops s run) (filter.filter_step ops s run) (filter_law.adds_up ops s run)
    rest-step (grouping s c at) =
        rest-behind at (after_processor ops group at.part (GroupByAttrs s) c (Ok (group s.keys c.tree, c.account)))
    rest-step (routing s c at) = rest-behind at (after_connector ops group at.part s c (routed ops s c.tree c.account))
    rest-step (ending taken c) = refl
    rest-step (over o) = refl

    pub rest-steps : (k : ℕ) (s : LegState T) → rest_of ops group parts (leg_steps ops group parts k s) ≡ rest_of ops group parts s
    rest-steps zero s = refl
    rest-steps (suc k) s = rest-steps k (leg_step ops group parts s) ∙ rest-step s
