-- The texts of a folder, of which one is another.
use Rattle.std.proofs.Common.{◌≡◌, ◌∙◌, ℕ, zero, suc, List, [], ◌∷◌, Some, sym, slice_set}
use Rattle.std.specs.Prelude.{All, true}
use Rattle.std.proofs.lemmas.List.Elements.{All-cons, All-head, All-tail}
use Rattle.mbox_scan.specs.Mailbox.{is_message, join, list_of, texts_of, IsProper}
use Rattle.mbox_scan.proofs.MailboxLemmas.{list_of-join, list_of-proper}
use Rattle.mbox_scan.proofs.MessageLemmas.{message-proper}
use Rattle.folder_commands.specs.Editing.{edited_texts}

pub All-set : {A : Type 0} (P : A → Type 0) (xs : List A) (k : ℕ) (y : A) → All P xs → P y → All P (slice_set xs k y)
All-set P [] k y h p = h
All-set P (x ∷ xs) zero y h p = All-cons P y xs p (All-tail P x xs h)
All-set P (x ∷ xs) (suc k) y h p = All-cons P x (slice_set xs k y) (All-head P x xs h) (All-set P xs k y (All-tail P x xs h) p)

some-is : (l m : List (List ℕ)) → Some l ≡ Some m → l ≡ m
some-is l m is = cc is

-- written and read back they are the same
pub edited-listed : (folder bytes text : List ℕ) (n : ℕ) → list_of folder ≡ Some (texts_of folder) → is_message text ≡ true
    → bytes ≡ join (edited_texts folder n text) → list_of bytes ≡ Some (texts_of bytes) → texts_of bytes ≡ edited_texts folder n text
edited-listed folder bytes text n listed message is read =
    let proper : All IsProper (edited_texts folder n text) = All-set IsProper (texts_of folder) _ text (list_of-proper folder (texts_of folder) listed) (message-proper text message) in
    let back : list_of bytes ≡ Some (edited_texts folder n text) = (λ i. list_of (is i)) ∙ list_of-join (edited_texts folder n text) proper in
    some-is (texts_of bytes) (edited_texts folder n text) (sym read ∙ back)
