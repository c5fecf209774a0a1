-- What the code keeps of the words.
use Rattle.std.specs.Option.{option_map}
use Rattle.std.specs.declared.option.Option.{Option}
use Rattle.mailx_top.specs.declared.words.Start as code
use Rattle.mailx_top.specs.declared.words.Start.TheVariants as from
use Rattle.mailx_top.specs.Words.{Start, Opens, Sends}

-- how to start
abbrev pub start_from : code.Start → Start
start_from (from.Opens o) = Opens o.now
start_from (from.Sends o) = Sends o.now

-- what starts, if the words ask for anything
abbrev pub may_start : Option code.Start → Option Start
may_start a = option_map start_from a
