-- The numbers that a list of words selects are those of messages.
use Rattle.std.proofs.Common.{◌≡◌, ℕ, true, List, [], ◌∷◌, Option, Some, None, Result, Ok, Err, Contains, refl, subst}
use Rattle.std.specs.Prelude.{All}
use Rattle.std.proofs.lemmas.List.Elements.{All-contains}
use Rattle.mbox_scan.specs.Mailbox.{texts_of}
use Rattle.message_state.specs.declared.shown.Shown.{Shown}
use Rattle.message_list.specs.declared.list.ListError.{ListError}
use Rattle.message_list.specs.declared.list.ListError.TheVariants.{Syntax, NoSuch, NoneMatch}
use Rattle.message_list.specs.declared.list.Purpose.{Purpose}
use Rattle.message_list.specs.Choosing as of_list
use Rattle.message_list.specs.Places.{in_base}
use Rattle.message_list.specs.Selections.{selection, first_missing}
use Rattle.message_list.specs.ListWords.{first_bad}
use Rattle.message_list.proofs.SelectionLemmas.{base_all}
use Rattle.message_list.proofs.ViewLemmas.{in_base-message}
use Rattle.command_desk.specs.declared.desk.Desk.{Desk}
use Rattle.command_desk.specs.Answers.{OrFault}
use Rattle.command_desk.specs.Desks.{IsMessageOf}
use Rattle.command_desk.specs.Selecting.{chosen, or_list_line}

abbrev met : List ℕ → Result (List ℕ) ListError
met ns = Ok ns

past_unless : (o : Option (List ℕ)) (error : List ℕ → ListError) (found : Result (List ℕ) ListError) (ns : List ℕ) → of_list.unless o error found ≡ met ns → found ≡ met ns
past_unless (Some word) error found ns is = absurd (cc)
past_unless None error found ns is = is

past_some : (found ns : List ℕ) → of_list.some_message found ≡ met ns → found ≡ ns
past_some [] ns is = absurd (cc)
past_some (n ∷ more) ns is = cc

-- what is chosen is the selection
selected : (purpose : Purpose) (shown : Shown) (texts : List (List ℕ)) (words : List (List ℕ)) (ns : List ℕ)
    → of_list.chosen purpose shown texts words ≡ met ns → selection shown texts purpose (of_list.items_of words) ≡ ns
unfolding of_list.chosen
selected purpose shown texts words ns is =
    let found = of_list.some_message (selection shown texts purpose (of_list.items_of words)) in
    past_some (selection shown texts purpose (of_list.items_of words)) ns
    (past_unless (first_missing shown texts purpose (of_list.items_of words)) NoSuch found ns
    (past_unless (first_bad words) Syntax (of_list.unless (first_missing shown texts purpose (of_list.items_of words)) NoSuch found) ns is))

no_line : (r : Result (List ℕ) ListError) (ns : List ℕ) (chosen : OrFault (List ℕ)) → or_list_line r ≡ chosen → chosen ≡ Ok ns → r ≡ met ns
no_line (Ok found) ns chosen is ok = cc
no_line (Err e) ns chosen is ok = absurd (cc)

-- each number that is chosen is that of a message of the desk
pub chosen_messages : (purpose : Purpose) (desk : Desk) (words : List (List ℕ)) (ns : List ℕ) (n : ℕ)
    → chosen purpose desk words ≡ Ok ns → Contains ns n → IsMessageOf desk.shown n
chosen_messages purpose desk words ns n is at =
    let texts = texts_of desk.folder.folder in
    let same = selected purpose desk.shown texts words ns (no_line (of_list.chosen purpose desk.shown texts words) ns (chosen purpose desk words) refl is) in
    let all = subst (λ (l : List ℕ). All (λ k. in_base desk.shown purpose k ≡ true) l) same (base_all desk.shown texts purpose (of_list.items_of words)) in
    in_base-message desk.shown purpose n (All-contains (λ k. in_base desk.shown purpose k ≡ true) ns n all at)
