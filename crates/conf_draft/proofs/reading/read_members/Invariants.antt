use Rattle.std.proofs.Common.{◌≡◌, ◌++◌}
use Rattle.serde_json.specs.View.{members_view}
use Rattle.conf_draft.specs.Draft.{each_named}
use Rattle.conf_draft.proofs.reading.read_members.Given as goal

-- what was read, then the members left, is the whole
abbrev pub invariant-loop-name : goal.invariant-loop-name
invariant-loop-name g l =
    l.list ++ each_named g.T.Named.of (members_view l.name-iterator) ≡ each_named g.T.Named.of (members_view l.members.entries)
