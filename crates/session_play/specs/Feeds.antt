-- What a reader knows of the bytes that it keeps.
use Rattle.std.specs.Prelude.{◌≡◌, ◌+◌, ◌<◌, ◌≤◌, ℕ, false, List, length, drop, slice_index}
use Rattle.std.specs.declared.result.Result.{Result}
use Rattle.std.specs.declared.result.Result.TheVariants.{Ok, Err}
use Rattle.session_play.specs.declared.stop.Stop.{Stop}
use Rattle.session_play.specs.declared.stop.Stop.TheVariants as stop
use Rattle.session_play.specs.Input.{Input, input_limit, is_empty, took}

-- no line feed stands among the first n bytes
abbrev pub NoFeed : List ℕ → ℕ → Type 0
NoFeed bytes n = (j : ℕ) → j < n → slice_index bytes j ≡ 10 → ⊥

-- the unused bytes begin within the bytes, their first ones hold no line feed, and the limit is kept
pub record IsReading (bytes : List ℕ) (at clear taken : ℕ) : Type 0 where
  pub within : at + clear ≤ length bytes
  pub limit : taken ≤ input_limit
  pub no_feed : NoFeed (drop at bytes) clear

-- Bytes were put after the unused ones. Else nothing changed: they pass the limit, or memory ran out, as it never does at the end.
abbrev pub TookIn : Result Unit Stop → Input → List ℕ → Input → Type 0
TookIn (Ok u) i bytes j = (i.taken + length bytes ≤ input_limit) × (j ≡ took i bytes)
TookIn (Err stop.TooMuch) i bytes j = (input_limit < i.taken + length bytes) × (j ≡ i)
TookIn (Err stop.Memory) i bytes j = (i.taken + length bytes ≤ input_limit) × (is_empty bytes ≡ false) × (j ≡ i)
TookIn (Err cause) i bytes j = ⊥
