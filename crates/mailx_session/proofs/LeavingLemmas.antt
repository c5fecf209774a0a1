-- A quit brings no lines.
use Rattle.std.proofs.Common.{◌≡◌, ℕ, false, ◌==◌, List, [], ◌∷◌, ◌++◌, length, refl, inl, inr}
use Rattle.std.proofs.lemmas.Bool.{cases_Bool}
use Rattle.std.specs.List.{list_any}
use Rattle.command_desk.specs.declared.desk.Desk.{Desk}
use Rattle.command_desk.specs.declared.steps.Ask.TheVariants as asks
use Rattle.folder_commands.specs.Leaving.{said, left_reply, quit}
use Rattle.session_asks.specs.Asks.{brings}

said-brings-none : (text : List ℕ) → list_any brings (said text ++ asks.Exit ∷ []) ≡ false
said-brings-none text = elim (cases_Bool (length text == 0)) [ inl y ↦ rw y refl | inr n ↦ rw n refl ]

pub quit-brings-none : (desk : Desk) → list_any brings (quit desk).asks ≡ false
quit-brings-none desk = said-brings-none (left_reply desk)
