-- Bytes that are one message are a proper text.
use Rattle.std.proofs.Common.{◌≡◌, ◌∙◌, ℕ, true, List, [], ◌∷◌, Option, Some, None, refl, ap, subst}
use Rattle.std.proofs.lemmas.List.{append-nil}
use Rattle.std.proofs.lemmas.List.Elements.{All-head}
use Rattle.std.proofs.lemmas.Slice.Eq.{bytes_eq-Decides}
use Rattle.mbox_scan.specs.Mailbox.{is_alone, is_mailbox, is_message, list_of, IsProper}
use Rattle.mbox_scan.proofs.JoinLemmas.{is_mailbox-proper}
use Rattle.mbox_scan.proofs.MailboxLemmas.{list_of-mailbox, list_of-proper, texts-proper_one}

alone-is : (t : List ℕ) (texts : Option (List (List ℕ))) → is_alone t texts ≡ true → texts ≡ Some (t ∷ [])
alone-is t None is = absurd (cc is)
alone-is t (Some []) is = absurd (cc is)
alone-is t (Some (x ∷ [])) is = ap (λ (u : List ℕ). Some (u ∷ [])) ((bytes_eq-Decides x t).0 is)
alone-is t (Some (x ∷ y ∷ l)) is = absurd (cc is)

pub message-proper : (t : List ℕ) → is_message t ≡ true → IsProper t
message-proper t is = All-head IsProper t [] (list_of-proper t (t ∷ []) (alone-is t (list_of t) is))

pub proper-message : (t : List ℕ) → IsProper t → is_message t ≡ true
proper-message t p =
    let mailbox : is_mailbox t ≡ true = subst (λ (b : List ℕ). is_mailbox b ≡ true) (append-nil t) (is_mailbox-proper t [] p) in
    ap (is_alone t) (list_of-mailbox t mailbox ∙ ap (λ (l : List (List ℕ)). Some l) (texts-proper_one t p)) ∙ (bytes_eq-Decides t t).1 refl
