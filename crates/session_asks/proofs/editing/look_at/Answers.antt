use Rattle.std.proofs.Common.{[]}
use Rattle.std.proofs.lemmas.List.Elements.{All-nil, All-cons}
use Rattle.command_desk.specs.Desks.{IsMessageOf}
use Rattle.session_asks.proofs.editing.look_at.Goals as goal

pub marked-requires-clause-messages : goal.marked-requires-clause-messages
marked-requires-clause-messages c =
    All-cons (IsMessageOf c.args.desk.now.shown) c.args.n [] c.requires.message (All-nil (IsMessageOf c.args.desk.now.shown))
