-- What was done at the end of an operation that was carried out.
use Rattle.std.specs.Prelude.{ℕ, true, List, [], ◌∷◌}
use Rattle.std.specs.declared.result.Result.TheVariants.{Ok}
use Rattle.spool_rules.specs.declared.port.Step.{Step}
use Rattle.spool_rules.specs.declared.port.Step.TheVariants.{Take, Link, Rename, Sync}
use Rattle.spool_rules.specs.declared.words.Operation.TheVariants.{Lock, Unlock, Stage, Publish, Erase, Discard}
use Rattle.spool_rules.specs.declared.words.Operation.{Operation}
use Rattle.spool_rules.specs.declared.words.Request.{Request}
use Rattle.spool_rules.specs.Told.{EndsWith, Once}
use Rattle.spool_rules.specs.Lawful.{GoneThen, Unlocks}

-- what an operation does: it is the last call but one, and was made to last
abbrev pub DoesAt : Operation → ℕ → Request → List Step → Type 0
DoesAt Lock n r steps = EndsWith steps (Link r.beside r.lock (Ok true) ∷ Sync (Ok tt) ∷ [])
DoesAt Unlock n r steps = Once (λ front. Unlocks n r front) steps × GoneThen r.beside (Sync (Ok tt) ∷ []) steps
DoesAt Stage n r steps = (mode : ℕ) × EndsWith steps (Take r.staged mode (Ok tt) ∷ Sync (Ok tt) ∷ [])
DoesAt Publish n r steps = EndsWith steps (Rename r.staged r.mailbox (Ok tt) ∷ Sync (Ok tt) ∷ [])
DoesAt Erase n r steps = GoneThen r.mailbox (Sync (Ok tt) ∷ []) steps
DoesAt Discard n r steps = GoneThen r.staged (Sync (Ok tt) ∷ []) steps
