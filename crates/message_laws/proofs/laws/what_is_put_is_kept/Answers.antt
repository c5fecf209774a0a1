use Rattle.message_laws.proofs.RunLemmas.{put_is_kept}
use Rattle.message_laws.proofs.laws.what_is_put_is_kept.Goals as goal

pub returns : goal.returns
returns c = put_is_kept
