-- What counts as saved is in what is put into the file.
use Rattle.std.proofs.Common.{◌≡◌, inl, inr, ℕ, ◌+◌, ◌-◌, Bool, true, false, ◌==◌, List, [], Ok, Err, length, refl, ap, subst, arith}
use Rattle.std.specs.Prelude.{slice_index, codes, if◌then◌else◌}
use Rattle.std.specs.List.{Contains}
use Rattle.message_state.specs.declared.mark.Act.{Act}
use Rattle.message_state.specs.declared.mark.Act.TheVariants.{Look, Save}
use Rattle.message_list.specs.declared.list.Purpose.TheVariants.{Live}
use Rattle.command_desk.specs.declared.desk.Desk.{Desk}
use Rattle.command_desk.specs.declared.effects.Marking.{Marking}
use Rattle.command_desk.specs.Answers.{OrFault, next}
use Rattle.command_desk.specs.Desks.{message_text, IsMessageOf}
use Rattle.command_desk.specs.Effects.{marking, markings}
use Rattle.command_desk.specs.Faults.{bad_arguments}
use Rattle.command_desk.specs.FileNames.{expanded, author_of, named_after}
use Rattle.command_desk.specs.Selecting.{chosen, list_words, last_word}
use Rattle.folder_commands.specs.declared.wanted.Filing.{Filing}
use Rattle.folder_commands.specs.Saving.{adding, body_line, by_author, into_file, into_mbox, into_named, write, write_to, writing}
use Rattle.filing_laws.specs.Saving.{IsIn, MarkedIsPut}
use Rattle.filing_laws.proofs.ChosenLemmas.{chosen_messages}
use Rattle.filing_laws.proofs.Places.{contains_back, contains_map, stands_in_flat}

-- each act of the filing is on a message of the desk, and the message is in what it puts
abbrev AllPut : Desk → Filing → Type 0
AllPut desk filing = (m : Marking) → Contains filing.effects.marks m → (n : ℕ) × IsMessageOf desk.shown n × (n ≡ m.row + 1) × IsIn filing.put.what desk n

-- all of these are numbers of messages
abbrev AreMessages : Desk → List ℕ → Type 0
AreMessages desk ns = (n : ℕ) → Contains ns n → IsMessageOf desk.shown n

live : (desk : Desk) (words : List (List ℕ)) (ns : List ℕ) → chosen Live desk words ≡ Ok ns → AreMessages desk ns
live desk words ns is n at = chosen_messages Live desk words ns n is at

-- an act comes from a number
record IsFrom (act : Act) (ns : List ℕ) (m : Marking) : Type 0 where
  n : ℕ
  there : Contains ns n
  is : m.row ≡ n - 1

marked_row : (act : Act) (ns : List ℕ) (m : Marking) → Contains (markings act ns) m → IsFrom act ns m
marked_row act ns m at = let from = contains_back (marking act) ns m at in record { n = from.0; there = from.1; is = ap (λ (x : Marking). x.row) from.2 }

numbered : (desk : Desk) (n row : ℕ) → IsMessageOf desk.shown n → row ≡ n - 1 → n ≡ row + 1
numbered desk n row (low, high) is = omega (arith, low, is)

added : (act : Act) (desk : Desk) (ns : List ℕ) (name : List ℕ) → AreMessages desk ns → AllPut desk (adding act desk ns name)
added act desk ns name are m at =
    let row = marked_row act ns m at in
    let message = are row.n row.there in
    (row.n, message, numbered desk row.n m.row message row.is, contains_map (message_text desk) ns row.n row.there)

written : (desk : Desk) (ns : List ℕ) (name : List ℕ) → AreMessages desk ns → AllPut desk (writing desk ns name)
written desk ns name are m at =
    let row = marked_row Save ns m at in
    let message = are row.n row.there in
    (row.n, message, numbered desk row.n m.row message row.is, stands_in_flat (body_line desk) ns row.n row.there)

abbrev ok_of : Filing → OrFault Filing
ok_of f = Ok f

same_filing : (a b : Filing) → ok_of a ≡ ok_of b → a ≡ b
same_filing a b e = cc

-- a command that comes to this filing
module _ (desk : Desk) (filing : Filing) where
  done : (f : Filing) → AllPut desk f → ok_of f ≡ ok_of filing → AllPut desk filing
  done f all is = subst (AllPut desk) (same_filing f filing is) all

  onward : {A : Type 0} (r : OrFault A) (go_on : A → OrFault Filing) → ((a : A) → r ≡ Ok a → go_on a ≡ ok_of filing → AllPut desk filing) → next r go_on ≡ ok_of filing → AllPut desk filing
  onward (Ok a) go_on each is = each a refl is
  onward (Err fault) go_on each is = absurd (cc)

  named : (act : Act) (list : List (List ℕ)) (word : List ℕ) → into_named act desk list word ≡ ok_of filing → AllPut desk filing
  named act list word is =
      onward (chosen Live desk list) _ (λ ns found is. onward (expanded desk word) _ (λ name expands is. done (adding act desk ns name) (added act desk ns name (live desk list ns found)) is) is) is

  boxed : (act : Act) → into_mbox act desk ≡ ok_of filing → AllPut desk filing
  boxed act is = onward (chosen Live desk []) _ (λ ns found is. done (adding act desk ns desk.places.mbox) (added act desk ns desk.places.mbox (live desk [] ns found)) is) is

  filed : (act : Act) (words : List (List ℕ)) → into_file act desk words ≡ ok_of filing → AllPut desk filing
  filed act words is = go (length words == 0) is
    where
      go : (b : Bool) → (if b then into_mbox act desk else into_named act desk (list_words words) (last_word words)) ≡ ok_of filing → AllPut desk filing
      go true is = boxed act is
      go false is = named act (list_words words) (last_word words) is

  authored : (act : Act) (words : List (List ℕ)) → by_author act desk words ≡ ok_of filing → AllPut desk filing
  authored act words is =
      onward (chosen Live desk words) _ (λ ns found is.
      onward (named_after (author_of desk (slice_index ns 0))) _ (λ name named is. done (adding act desk ns name) (added act desk ns name (live desk words ns found)) is) is) is

  written_to : (list : List (List ℕ)) (word : List ℕ) → write_to desk list word ≡ ok_of filing → AllPut desk filing
  written_to list word is =
      onward (chosen Live desk list) _ (λ ns found is. onward (expanded desk word) _ (λ name expands is. done (writing desk ns name) (written desk ns name (live desk list ns found)) is) is) is

  wrote : (words : List (List ℕ)) → write desk words ≡ ok_of filing → AllPut desk filing
  wrote words is = go (length words == 0) is
    where
      go : (b : Bool) → (if b then Err (bad_arguments (codes "write")) else write_to desk (list_words words) (last_word words)) ≡ ok_of filing → AllPut desk filing
      go true is = absurd (cc)
      go false is = written_to (list_words words) (last_word words) is

pub marked_is_put : MarkedIsPut
marked_is_put desk words filing m (inl is) at = filed desk filing Save words is m at
marked_is_put desk words filing m (inr (inl is)) at = authored desk filing Save words is m at
marked_is_put desk words filing m (inr (inr (inl is))) at = filed desk filing Look words is m at
marked_is_put desk words filing m (inr (inr (inr (inl is)))) at = authored desk filing Look words is m at
marked_is_put desk words filing m (inr (inr (inr (inr is)))) at = wrote desk filing words is m at
