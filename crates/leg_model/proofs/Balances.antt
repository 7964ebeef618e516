-- No log record that a leg gets is lost from its counts.
use Rattle.std.proofs.Common.{◌≡◌, ℕ, suc, ◌+◌, List, [], ◌∷◌, length, None, Result, Ok, Err, refl, sym, ap, arith}
use Rattle.conf_json.specs.Account.{Account}
use Rattle.conf_json.specs.declared.account.Note.{Note}
use Rattle.conf_json.specs.declared.settings.ProcessorSettings.{ProcessorSettings}
use Rattle.conf_json.specs.declared.settings.RouteSettings.{RouteSettings}
use Rattle.graph_build.specs.Conf.{Conf}
use Rattle.graph_build.specs.declared.leg.Leg.{Leg}
use Rattle.leg_model.proofs.Made.{Keeps, processor-keeps}
use Rattle.leg_model.specs.Course.{◌>>=◌, Course, Failure, after_connector, after_processor, by_connector, by_connectors, by_parts, by_processor, by_processors, dropped, ended, left_of, processed, start}
use Rattle.leg_model.specs.Exports.{logs}
use Rattle.leg_model.specs.Facts.{AddUp, FailsWhole, entry, records_left}
use Rattle.leg_model.specs.Legs.{leg_outcome}
use Rattle.leg_model.specs.Parts.{Parts, parts_of}
use Rattle.leg_model.specs.Totals.{leg_total, payload_counts, plus}
use Rattle.leg_model.specs.declared.LegCounts.{LegCounts}
use Rattle.otlp_json.specs.Payload.{payload}
use Rattle.otlp_json.specs.Reads.{Read}
use Rattle.pdata_tree.specs.Grouping.{grouped}
use Rattle.pdata_tree.specs.Operations.{log_trees}
use Rattle.pdata_tree.specs.Places.{targets_from}
use Rattle.pdata_tree.specs.Tree.{records, records_of_resources}
use Rattle.pdata_tree.specs.declared.batch.Batch.{Batch}
use Rattle.pdata_tree.specs.declared.place.Context.TheVariants.{Resource}
use Rattle.pdata_tree.specs.declared.place.Place.{Place}
use Rattle.pdata_tree.specs.declared.resource.ResourceTree.{ResourceTree}
use Rattle.routing_conn.specs.Meaning.{Routed, routed}

-- the log records that a leg took are those that it has now, and those that it dropped
abbrev Balances : ℕ → Result (Course Batch) Failure → Type 0
Balances taken (Ok c) = records c.tree + c.filtered ≡ taken
Balances taken (Err f) = Unit {0}

balances-more : (taken : ℕ) (r : Result (Course Batch) Failure) (go : Course Batch → Result (Course Batch) Failure)
    → Balances taken r → ((c : Course Batch) → records c.tree + c.filtered ≡ taken → Balances taken (go c))
    → Balances taken (r >>= go)
balances-more taken (Ok c) go here more = more c here
balances-more taken (Err f) go here more = tt

-- what is left and dropped now, and what was dropped before
dropped_more : (taken before left now was : ℕ) → before + was ≡ taken → left + now ≡ before → left + (was + now) ≡ taken
dropped_more taken before left now was whole here = omega (arith, whole, here)

processor-balances : (taken part : ℕ) (s : ProcessorSettings) (c : Course Batch) (r : Result (Batch × Account) Note)
    → records c.tree + c.filtered ≡ taken → Keeps s (records c.tree) r
    → Balances taken (after_processor log_trees grouped part s c r)
processor-balances taken part s c (Ok t) whole keeps =
    dropped_more taken (records c.tree) (records t.0) (dropped s (records c.tree) (records t.0)) c.filtered whole keeps
processor-balances taken part s c (Err note) whole keeps = tt

processors-balance : (taken part : ℕ) (ss : List ProcessorSettings) (c : Course Batch)
    → records c.tree + c.filtered ≡ taken → Balances taken (by_processors log_trees grouped part ss c)
processors-balance taken part [] c whole = whole
processors-balance taken part (s ∷ ss) c whole =
    balances-more taken (by_processor log_trees grouped part s c) (by_processors log_trees grouped (suc part) ss)
    (processor-balances taken part s c (processed log_trees grouped s c.tree c.account) whole
    (processor-keeps s c.tree c.account))
    (λ d here. processors-balance taken (suc part) ss d here)

-- connectors leave the tree
connector-balances : (taken part : ℕ) (s : RouteSettings) (c : Course Batch) (r : Result (Routed Batch × Account) Note)
    → records c.tree + c.filtered ≡ taken → Balances taken (after_connector log_trees grouped part s c r)
connector-balances taken part s c (Ok t) whole = whole
connector-balances taken part s c (Err note) whole = tt

connectors-balance : (taken part : ℕ) (ss : List RouteSettings) (c : Course Batch)
    → records c.tree + c.filtered ≡ taken → Balances taken (by_connectors log_trees grouped part ss c)
connectors-balance taken part [] c whole = whole
connectors-balance taken part (s ∷ ss) c whole =
    balances-more taken (by_connector log_trees grouped part s c) (by_connectors log_trees grouped (suc part) ss)
    (connector-balances taken part s c (routed log_trees s c.tree c.account) whole)
    (λ d here. connectors-balance taken (suc part) ss d here)

none_yet : (n : ℕ) → n + 0 ≡ n
none_yet n = omega arith

parts-balance : (parts : Parts) (tree : Batch) → Balances (records tree) (by_parts log_trees grouped parts (start tree))
parts-balance parts tree =
    balances-more (records tree) (by_processors log_trees grouped 0 parts.processors (start tree))
    (by_connectors log_trees grouped (length parts.processors) parts.connectors)
    (processors-balance (records tree) 0 parts.processors (start tree) (none_yet (records tree)))
    (λ c here. connectors-balance (records tree) (length parts.processors) parts.connectors c here)

-- How a leg ends.

all_out : (taken out filtered : ℕ) → out + filtered ≡ taken → taken ≡ out + filtered + 0
all_out taken out filtered whole = omega (arith, whole)

all_failed : (taken : ℕ) → taken ≡ 0 + 0 + taken
all_failed taken = omega arith

ended-adds : (taken : ℕ) (r : Result (Course Batch) Failure) → Balances taken r → AddUp (ended log_trees taken r).counts
ended-adds taken (Ok c) whole = all_out taken (records c.tree) c.filtered whole
ended-adds taken (Err f) whole = all_failed taken

left-adds : (parts : Parts) (tree : Batch) (places : List Place) → AddUp (left_of log_trees grouped parts tree places).counts
left-adds parts tree [] = all_failed 0
left-adds parts tree (p ∷ ps) =
    ended-adds (records tree) (by_parts log_trees grouped parts (start tree)) (parts-balance parts tree)

pub leg-adds : (conf : Conf) (tree : Batch) (leg : Leg) → AddUp (leg_outcome logs conf tree leg).counts
leg-adds conf tree leg =
    left-adds (parts_of conf.meant leg.pipeline) (entry conf tree leg) (targets_from Resource 0 (entry conf tree leg).resources)

-- Over lines.

sums_add : (a b c d e f g h : ℕ) → a ≡ b + c + d → e ≡ f + g + h → a + e ≡ (b + f) + (c + g) + (d + h)
sums_add a b c d e f g h first second = omega (arith, first, second)

plus-adds : (a b : LegCounts) → AddUp a → AddUp b → AddUp (plus a b)
plus-adds a b first second =
    sums_add a.taken a.out a.filtered a.failed b.taken b.out b.filtered b.failed first second

payload-adds : (conf : Conf) (leg : Leg) (p : Read Batch) → AddUp (payload_counts conf leg p)
payload-adds conf leg (Ok tree) = leg-adds conf tree leg
payload-adds conf leg (Err fault) = all_failed 0

pub total-adds : (conf : Conf) (leg : Leg) (lines : List (List ℕ)) → AddUp (leg_total conf leg lines)
total-adds conf leg [] = all_failed 0
total-adds conf leg (l ∷ ls) =
    plus-adds (payload_counts conf leg (payload l)) (leg_total conf leg ls) (payload-adds conf leg (payload l))
    (total-adds conf leg ls)

-- What was taken is what the leg got, and what is out is what it left.

ended-taken : (taken : ℕ) (r : Result (Course Batch) Failure) → (ended log_trees taken r).counts.taken ≡ taken
ended-taken taken (Ok c) = refl
ended-taken taken (Err f) = refl

left-taken : (parts : Parts) (tree : Batch) (rs : List ResourceTree) → tree.resources ≡ rs
    → (left_of log_trees grouped parts tree (targets_from Resource 0 rs)).counts.taken ≡ records tree
left-taken parts tree [] is = sym (ap records_of_resources is)
left-taken parts tree (r ∷ rs) is = ended-taken (records tree) (by_parts log_trees grouped parts (start tree))

pub leg-taken : (conf : Conf) (tree : Batch) (leg : Leg)
    → (leg_outcome logs conf tree leg).counts.taken ≡ records (entry conf tree leg)
leg-taken conf tree leg =
    left-taken (parts_of conf.meant leg.pipeline) (entry conf tree leg) (entry conf tree leg).resources refl

ended-out : (taken : ℕ) (r : Result (Course Batch) Failure)
    → (ended log_trees taken r).counts.out ≡ records_left (ended log_trees taken r).tree
ended-out taken (Ok c) = refl
ended-out taken (Err f) = refl

left-out : (parts : Parts) (tree : Batch) (rs : List ResourceTree) → tree.resources ≡ rs
    → (left_of log_trees grouped parts tree (targets_from Resource 0 rs)).counts.out
    ≡ records_left (left_of log_trees grouped parts tree (targets_from Resource 0 rs)).tree
left-out parts tree [] is = sym (ap records_of_resources is)
left-out parts tree (r ∷ rs) is = ended-out (records tree) (by_parts log_trees grouped parts (start tree))

pub leg-out : (conf : Conf) (tree : Batch) (leg : Leg)
    → (leg_outcome logs conf tree leg).counts.out ≡ records_left (leg_outcome logs conf tree leg).tree
leg-out conf tree leg =
    left-out (parts_of conf.meant leg.pipeline) (entry conf tree leg) (entry conf tree leg).resources refl

-- A leg that fails.

ended-fails : (taken : ℕ) (r : Result (Course Batch) Failure) → (ended log_trees taken r).tree ≡ None
    → FailsWhole (ended log_trees taken r)
ended-fails taken (Ok c) failed = absurd cc
ended-fails taken (Err f) failed =
    record { fault = refl; routed = refl; failed = refl; out = refl; filtered = refl; unrouted = refl }

left-fails : (parts : Parts) (tree : Batch) (places : List Place) → (left_of log_trees grouped parts tree places).tree ≡ None
    → FailsWhole (left_of log_trees grouped parts tree places)
left-fails parts tree [] failed = absurd cc
left-fails parts tree (p ∷ ps) failed = ended-fails (records tree) (by_parts log_trees grouped parts (start tree)) failed

pub leg-fails : (conf : Conf) (tree : Batch) (leg : Leg) → (leg_outcome logs conf tree leg).tree ≡ None
    → FailsWhole (leg_outcome logs conf tree leg)
leg-fails conf tree leg failed =
    left-fails (parts_of conf.meant leg.pipeline) (entry conf tree leg) (targets_from Resource 0 (entry conf tree leg).resources)
    failed

pub ruleset counts_law = (leg-taken, leg-out, leg-adds, total-adds)
