-- What the parts of a pipeline make of a tree, one after another, with one account of errors.
use Rattle.std.specs.Prelude.{ℕ, suc, ◌+◌, ◌-◌, List, [], ◌∷◌, ◌++◌, length, map, drop, Option, Some, None, Result, Ok, Err}
use Rattle.conf_json.specs.Account.{Account, empty_account}
use Rattle.conf_json.specs.declared.account.Note.{Note}
use Rattle.conf_json.specs.declared.settings.ProcessorSettings.{ProcessorSettings}
use Rattle.conf_json.specs.declared.settings.ProcessorSettings.TheVariants.{Transform, Filter, GroupByAttrs}
use Rattle.conf_json.specs.declared.settings.RouteSettings.{RouteSettings}
use Rattle.filter_proc.specs.Meaning.{filtered}
use Rattle.leg_model.specs.Parts.{Parts}
use Rattle.leg_model.specs.declared.LegCounts.{LegCounts}
use Rattle.leg_model.specs.declared.LegNote.{LegNote}
use Rattle.pdata_tree.specs.Operations.{TreeOps}
use Rattle.pdata_tree.specs.declared.path.PathTo.{PathTo}
use Rattle.pdata_tree.specs.declared.place.Context.TheVariants.{Resource}
use Rattle.pdata_tree.specs.declared.place.Place.{Place}
use Rattle.routing_conn.specs.Meaning.{Routed, routed}
use Rattle.transform_proc.specs.Meaning.{transformed}

-- What a leg has come to after some of its parts.
pub record Course (T : Type 0) : Type 0 where
  pub tree : T
  -- the errors so far, and their notes with the number of the part that erred
  pub account : Account
  pub notes : List LegNote
  -- the log records that filters dropped
  pub filtered : ℕ
  -- what each connector routed, and the log records that they left without a pipeline
  pub routed : List (Routed T)
  pub unrouted : ℕ

-- How a leg failed: the errors before, and the one with which it ended.
pub record Failure : Type 0 where
  pub account : Account
  pub notes : List LegNote
  pub fault : LegNote

infixl 10 ◌>>=◌
-- what follows, unless the leg failed before
abbrev pub ◌>>=◌ : {X Y : Type 0} → Result X Failure → (X → Result Y Failure) → Result Y Failure
Ok x >>= go = go x
Err f >>= go = Err f

-- before the first part
abbrev pub start : {T : Type 0} → T → Course T
start tree = record {
  tree = tree;
  account = empty_account;
  notes = [];
  filtered = 0;
  routed = [];
  unrouted = 0;
}

-- notes of the part with that number
abbrev pub numbered : ℕ → List Note → List LegNote
numbered part notes = map (λ n. record { component = part; note = n }) notes

-- the notes that the part with that number added to an account
abbrev pub gained : ℕ → Account → Account → List LegNote
gained part before now = numbered part (drop (length before.notes) now.notes)

-- the part with that number ended the leg with this note
abbrev pub failure : ℕ → Account → List LegNote → Note → Failure
failure part account notes note = record {
  account = account;
  notes = notes;
  fault = record { component = part; note = note };
}

-- the log records that a processor dropped, by how many there were before and are now
abbrev pub dropped : ProcessorSettings → ℕ → ℕ → ℕ
dropped (Transform s) before now = 0
dropped (Filter s) before now = before - now
dropped (GroupByAttrs s) before now = 0

-- of so many log records that a connector left, those that go to no pipeline
abbrev pub left_over : List (List ℕ) → ℕ → ℕ
left_over [] rest = rest
left_over (name ∷ names) rest = 0

module _ {T : Type 0} (ops : TreeOps T PathTo) (group : List (List ℕ) → T → T) where
  -- what a processor makes of a tree and an account
  abbrev pub processed : ProcessorSettings → T → Account → Result (T × Account) Note
  processed (Transform s) tree account = transformed ops s tree account
  processed (Filter s) tree account = filtered ops s tree account
  processed (GroupByAttrs s) tree account = Ok (group s.keys tree, account)

  -- the course after a processor with that number
  abbrev pub after_processor :
      ℕ → ProcessorSettings → Course T → Result (T × Account) Note → Result (Course T) Failure
  after_processor part s c (Ok (tree, account)) = Ok (record c {
    tree = tree;
    account = account;
    notes = c.notes ++ gained part c.account account;
    filtered = c.filtered + dropped s (ops.records c.tree) (ops.records tree);
  })
  after_processor part s c (Err note) = Err (failure part c.account c.notes note)

  -- one processor, with its number
  abbrev pub by_processor : ℕ → ProcessorSettings → Course T → Result (Course T) Failure
  by_processor part s c = after_processor part s c (processed s c.tree c.account)

  -- processors one after another, the first with that number
  abbrev pub by_processors : ℕ → List ProcessorSettings → Course T → Result (Course T) Failure
  by_processors part [] c = Ok c
  by_processors part (s ∷ ss) c = by_processor part s c >>= by_processors (suc part) ss

  -- the course after a connector with that number
  abbrev pub after_connector :
      ℕ → RouteSettings → Course T → Result (Routed T × Account) Note → Result (Course T) Failure
  after_connector part s c (Ok (r, account)) = Ok (record c {
    account = account;
    notes = c.notes ++ gained part c.account account;
    routed = c.routed ++ r ∷ [];
    unrouted = c.unrouted + left_over s.default_pipelines (ops.records r.rest);
  })
  after_connector part s c (Err note) = Err (failure part c.account c.notes note)

  -- one connector, with its number
  abbrev pub by_connector : ℕ → RouteSettings → Course T → Result (Course T) Failure
  by_connector part s c = after_connector part s c (routed ops s c.tree c.account)

  -- connectors one after another, the first with that number
  abbrev pub by_connectors : ℕ → List RouteSettings → Course T → Result (Course T) Failure
  by_connectors part [] c = Ok c
  by_connectors part (s ∷ ss) c = by_connector part s c >>= by_connectors (suc part) ss

  -- all parts: processors, then connectors
  abbrev pub by_parts : Parts → Course T → Result (Course T) Failure
  by_parts parts c =
      by_processors 0 parts.processors c
      >>= by_connectors (length parts.processors) parts.connectors

-- What a leg leaves. Its tree is None where it failed.
pub record Outcome (T : Type 0) : Type 0 where
  pub tree : Option T
  pub routed : List (Routed T)
  pub counts : LegCounts
  pub notes : List LegNote
  pub fault : Option LegNote

-- nothing is counted
abbrev pub no_counts : LegCounts
no_counts =
    record { taken = 0; out = 0; filtered = 0; unrouted = 0; failed = 0; errors = 0 }

-- a tree that has no resource is left as it is
abbrev pub untouched : {T : Type 0} → T → Outcome T
untouched tree = record {
  tree = Some tree;
  routed = [];
  counts = no_counts;
  notes = [];
  fault = None;
}

module _ {T : Type 0} (ops : TreeOps T PathTo) where
  -- how a leg ended that got so many log records
  abbrev pub ended : ℕ → Result (Course T) Failure → Outcome T
  ended taken (Ok c) = record {
    tree = Some c.tree;
    routed = c.routed;
    counts = record {
      taken = taken;
      out = ops.records c.tree;
      filtered = c.filtered;
      unrouted = c.unrouted;
      failed = 0;
      errors = c.account.count;
    };
    notes = c.notes;
    fault = None;
  }
  ended taken (Err f) = record {
    tree = None;
    routed = [];
    counts = record {
      taken = taken;
      out = 0;
      filtered = 0;
      unrouted = 0;
      failed = taken;
      errors = f.account.count;
    };
    notes = f.notes;
    fault = Some f.fault;
  }

  -- what a leg with those parts leaves of the tree that it gets, whose resources stand there
  abbrev pub left_of : (List (List ℕ) → T → T) → Parts → T → List Place → Outcome T
  left_of group parts tree [] = untouched tree
  left_of group parts tree (place ∷ places) =
      ended (ops.records tree) (by_parts ops group parts (start tree))

  -- what a leg with those parts leaves of the tree that it gets
  abbrev pub outcome : (List (List ℕ) → T → T) → Parts → T → Outcome T
  outcome group parts tree = left_of group parts tree (ops.targets tree Resource)
