-- A leg notes its first errors, also where it fails.
use Rattle.std.proofs.Common.{◌≡◌, ◌∙◌, ℕ, suc, ◌+◌, ◌-◌, ◌≤◌, List, [], ◌∷◌, ◌++◌, length, drop, Result, Ok, Err, refl, ap, arith, length-append, length-drop}
use Rattle.std.proofs.lemmas.List.{length-map}
use Rattle.std.specs.Prelude.{min}
use Rattle.conf_json.specs.Account.{Account, max_notes}
use Rattle.conf_json.specs.declared.account.Note.{Note}
use Rattle.conf_json.specs.declared.settings.ProcessorSettings.{ProcessorSettings}
use Rattle.conf_json.specs.declared.settings.ProcessorSettings.TheVariants.{Transform, Filter, GroupByAttrs}
use Rattle.conf_json.specs.declared.settings.RouteSettings.{RouteSettings}
use Rattle.graph_build.specs.Conf.{Conf}
use Rattle.graph_build.specs.declared.leg.Leg.{Leg}
use Rattle.leg_model.proofs.Accounts.{Grows, GrowsIn, NotesFirst, filter-grows, same-grows, transform-grows}
use Rattle.leg_model.proofs.Routes.{route-grows}
use Rattle.leg_model.specs.Course.{◌>>=◌, Course, Failure, after_connector, after_processor, by_connector, by_connectors, by_parts, by_processor, by_processors, ended, gained, left_of, processed, start}
use Rattle.leg_model.specs.Legs.{Kind, gets, leg_outcome}
use Rattle.leg_model.specs.Parts.{Parts, parts_of}
use Rattle.leg_model.specs.declared.LegNote.{LegNote}
use Rattle.pdata_tree.specs.Operations.{TreeOps}
use Rattle.pdata_tree.specs.declared.path.PathTo.{PathTo}
use Rattle.pdata_tree.specs.declared.place.Context.TheVariants.{Resource}
use Rattle.pdata_tree.specs.declared.place.Place.{Place}
use Rattle.routing_conn.specs.Meaning.{Routed, routed}

-- notes stand for those of an account, which notes its first errors
record Notes (account : Account) (notes : List LegNote) : Type 0 where
  pub all : length notes ≡ length account.notes
  pub first : NotesFirst account

as_many : (was now : ℕ) → was ≤ now → was + (now - was) ≡ now
as_many was now less = omega (arith, less)

notes-on : (part : ℕ) (before now : Account) (notes : List LegNote) → Notes before notes → Grows before now
    → Notes now (notes ++ gained part before now)
notes-on part before now notes here grows = record {
  all = length-append notes (gained part before now)
      ∙ ap (λ n. n + length (gained part before now)) here.all
      ∙ ap (λ n. length before.notes + n)
      (length-map (drop (length before.notes) now.notes) _ ∙ length-drop (length before.notes) now.notes)
      ∙ as_many (length before.notes) (length now.notes) grows.notes;
  first = grows.first here.first;
}

module _ {T : Type 0} (ops : TreeOps T PathTo) (group : List (List ℕ) → T → T) where
  -- so it is of a course, and of a failure
  abbrev Noting : Result (Course T) Failure → Type 0
  Noting (Ok c) = Notes c.account c.notes
  Noting (Err f) = Notes f.account f.notes

  noting-more : (r : Result (Course T) Failure) (go : Course T → Result (Course T) Failure) → Noting r
      → ((c : Course T) → Notes c.account c.notes → Noting (go c)) → Noting (r >>= go)
  noting-more (Ok c) go here more = more c here
  noting-more (Err f) go here more = here

  processor-grows : (s : ProcessorSettings) (tree : T) (a : Account) → GrowsIn a (processed ops group s tree a)
  processor-grows (Transform s) tree a = transform-grows ops s tree a
  processor-grows (Filter s) tree a = filter-grows ops s tree a
  processor-grows (GroupByAttrs s) tree a = same-grows a

  processor-notes : (part : ℕ) (s : ProcessorSettings) (c : Course T) (r : Result (T × Account) Note)
      → Notes c.account c.notes → GrowsIn c.account r → Noting (after_processor ops group part s c r)
  processor-notes part s c (Ok t) here grows = notes-on part c.account t.1 c.notes here grows
  processor-notes part s c (Err note) here grows = here

  processors-note : (part : ℕ) (ss : List ProcessorSettings) (c : Course T) → Notes c.account c.notes
      → Noting (by_processors ops group part ss c)
  processors-note part [] c here = here
  processors-note part (s ∷ ss) c here =
      noting-more (by_processor ops group part s c) (by_processors ops group (suc part) ss)
      (processor-notes part s c (processed ops group s c.tree c.account) here (processor-grows s c.tree c.account))
      (λ d there. processors-note (suc part) ss d there)

  connector-notes : (part : ℕ) (s : RouteSettings) (c : Course T) (r : Result (Routed T × Account) Note)
      → Notes c.account c.notes → GrowsIn c.account r → Noting (after_connector ops group part s c r)
  connector-notes part s c (Ok t) here grows = notes-on part c.account t.1 c.notes here grows
  connector-notes part s c (Err note) here grows = here

  connectors-note : (part : ℕ) (ss : List RouteSettings) (c : Course T) → Notes c.account c.notes
      → Noting (by_connectors ops group part ss c)
  connectors-note part [] c here = here
  connectors-note part (s ∷ ss) c here =
      noting-more (by_connector ops group part s c) (by_connectors ops group (suc part) ss)
      (connector-notes part s c (routed ops s c.tree c.account) here (route-grows ops s c.tree c.account))
      (λ d there. connectors-note (suc part) ss d there)

  parts-note : (parts : Parts) (tree : T) → Noting (by_parts ops group parts (start tree))
  parts-note parts tree =
      noting-more (by_processors ops group 0 parts.processors (start tree))
      (by_connectors ops group (length parts.processors) parts.connectors)
      (processors-note 0 parts.processors (start tree) (record { all = refl; first = refl }))
      (λ c here. connectors-note (length parts.processors) parts.connectors c here)

  ended-notes : (taken : ℕ) (r : Result (Course T) Failure) → Noting r
      → length (ended ops taken r).notes ≡ min (ended ops taken r).counts.errors max_notes
  ended-notes taken (Ok c) here = here.all ∙ here.first
  ended-notes taken (Err f) here = here.all ∙ here.first

  left-notes : (parts : Parts) (tree : T) (places : List Place)
      → length (left_of ops group parts tree places).notes ≡ min (left_of ops group parts tree places).counts.errors max_notes
  left-notes parts tree [] = refl
  left-notes parts tree (p ∷ ps) =
      ended-notes (ops.records tree) (by_parts ops group parts (start tree)) (parts-note parts tree)

pub leg-notes : {T : Type 0} (kind : Kind T) (conf : Conf) (tree : T) (leg : Leg)
    → length (leg_outcome kind conf tree leg).notes ≡ min (leg_outcome kind conf tree leg).counts.errors max_notes
leg-notes kind conf tree leg =
    left-notes kind.ops kind.group (parts_of conf.meant leg.pipeline) (gets kind conf tree (length conf.legs) leg)
    (kind.ops.targets (gets kind conf tree (length conf.legs) leg) Resource)
