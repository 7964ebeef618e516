-- What the types of this crate stand for, and how their calls end.
use Rattle.std.specs.Prelude.{◌≡◌, ◌||◌, Bool, false, List, [], ◌∷◌, map, Option, Some, None, is_none, Result, Ok, Err, slice_get}
use Rattle.conf_json.specs.Account.{Account}
use Rattle.conf_json.specs.declared.account.Note.{Note}
use Rattle.conf_json.specs.declared.account.PlainStop.{PlainStop}
use Rattle.conf_json.specs.declared.account.PlainStop.TheVariants as plain
use Rattle.graph_build.specs.declared.leg.Leg.{Leg}
use Rattle.leg_model.specs.Course.{Course, Failure, Outcome}
use Rattle.conf_draft.specs.declared.draft.Draft.{Draft}
use Rattle.conf_json.specs.declared.settings.Meant.{Meant}
use Rattle.conf_json.specs.declared.settings.Planned.{Planned}
use Rattle.leg_model.specs.Exports.{logs}
use Rattle.leg_model.specs.Legs.{handed}
use Rattle.leg_model.specs.Parts.{Parts, parts_of}
use Rattle.pdata_tree.specs.Places.{within}
use Rattle.pdata_tree.specs.declared.batch.Batch.{Batch}
use Rattle.plain_legs.specs.declared.course.LegCourse.{LegCourse}
use Rattle.plain_legs.specs.declared.course.CourseStop.{CourseStop}
use Rattle.plain_legs.specs.declared.course.CourseStop.TheVariants as course
use Rattle.plain_legs.specs.declared.course.LegFailure.{LegFailure}
use Rattle.plain_legs.specs.declared.outcome.LegOutcome.{LegOutcome}
use Rattle.plain_legs.specs.declared.parts.PipelineParts.{PipelineParts}
use Rattle.routing_conn.specs.Answers.{trees_of}

-- the parts of a pipeline
abbrev pub parts_in : PipelineParts → Parts
parts_in parts = record {
  processors = map (λ s. s.now) parts.processors;
  connectors = map (λ s. s.now) parts.connectors;
}

-- what a leg has come to
abbrev pub course_of : LegCourse → Course Batch
course_of c = record {
  tree = c.tree;
  account = c.book;
  notes = c.notes;
  filtered = c.filtered;
  routed = map trees_of c.routed;
  unrouted = c.unrouted;
}

-- how a leg failed
abbrev pub failure_of : LegFailure → Failure
failure_of f = record { account = f.book; notes = f.notes; fault = f.fault }

-- what a leg left
abbrev pub outcome_of : LegOutcome → Outcome Batch
outcome_of o = record {
  tree = o.tree;
  routed = map trees_of o.routed;
  counts = o.counts;
  notes = o.notes;
  fault = o.fault;
}

-- a processor answered the tree and the account that are meant, or the note with which the work is
-- meant to end, and then the account stays; want of memory is free
abbrev pub Processes :
    Account → Account → Result Batch PlainStop → Result (Batch × Account) Note → Type 0
Processes before now (Ok tree) meant = meant ≡ Ok (tree, now)
Processes before now (Err (plain.Failed note)) meant = (meant ≡ Err note) × (now ≡ before)
Processes before now (Err plain.NoMemory) meant = Unit

-- a leg came to what is meant, or failed as is meant; want of memory is free
abbrev pub Comes : Result LegCourse CourseStop → Result (Course Batch) Failure → Type 0
Comes (Ok c) meant = meant ≡ Ok (course_of c)
Comes (Err (course.Failed f)) meant = meant ≡ Err (failure_of f)
Comes (Err course.NoMemory) meant = Unit

-- a part's stop ends a leg: with this failure, or for want of memory
abbrev pub StoppedAs : PlainStop → CourseStop → (Note → Failure) → Type 0
StoppedAs (plain.Failed note) (course.Failed f) failure = failure note ≡ failure_of f
StoppedAs plain.NoMemory course.NoMemory failure = Unit
StoppedAs _ _ failure = ⊥

-- what a configuration spells, by its parts
abbrev pub meant_by : Draft → Planned → Meant
meant_by draft planned = record { draft = draft; planned = planned }

-- the parts of each leg's pipeline
abbrev pub HaveParts : Meant → List Leg → List PipelineParts → Type 0
HaveParts meant legs parts =
    map parts_in parts ≡ map (λ leg. parts_of meant leg.pipeline) legs

-- one of these legs has none above it, so it gets the payload itself
abbrev pub has_root : List Leg → Bool
has_root [] = false
has_root (leg ∷ legs) = is_none leg.parent || has_root legs

-- what a leg gets of a payload's tree, where the legs before it left this
abbrev pub entry_below : Leg → Option (Outcome Batch) → Batch → Batch
entry_below leg None tree = tree
entry_below leg (Some above) tree = handed logs leg above

-- the same, by what all legs before it left
abbrev pub entry_by : Leg → List (Outcome Batch) → Batch → Batch
entry_by leg before tree = entry_below leg (within (slice_get before) leg.parent) tree
