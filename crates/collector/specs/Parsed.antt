-- A command that was parsed, as the command of the table that it is.
use Rattle.std.specs.Prelude.{◌≤◌, Option, Some, None}
use Rattle.collector.specs.Words as words
use Rattle.collector.specs.declared.words.Command.{Command}
use Rattle.collector.specs.declared.words.Command.TheVariants.{Pass, Check, Run, Demo}

-- None where the words are no command
abbrev pub parsed : Option Command → Option words.Command
parsed None = None
parsed (Some (Pass input output)) = Some (words.pass input.now output.now)
parsed (Some (Check conf)) = Some (words.check conf.now)
parsed (Some (Run conf input)) = Some (words.run conf.now input.now)
parsed (Some (Demo conf made)) = Some (words.demo conf.now made.seed made.count)

-- no more payloads are made than may be
abbrev pub MakesFew : Option Command → Type 0
MakesFew (Some (Demo conf made)) = made.count ≤ words.max_payloads
MakesFew _ = Unit {0}
