-- For the crates above: bytes that are joined, and texts that are written one after the other.
use Rattle.std.proofs.Common.{◌≡◌, ℕ, ◌+◌, ◌<◌, true, List, [], ◌∷◌, ◌++◌, length, take, get_or, refl, sym, ap, ◌∙◌, arith, inr, append_assoc}
use Rattle.std.specs.List.{All}
use Rattle.std.proofs.lemmas.List.{take_more, append-nil}
use Rattle.std.proofs.lemmas.List.Elements.{All-head, All-tail}
use Rattle.mbox_scan.specs.Mailbox.{from_mark, two_feeds, is_mailbox, texts_of, join, written, IsProper}
use Rattle.mbox_scan.proofs.StartLemmas.{OccursAt-left, starts_with-OccursAt}
use Rattle.mbox_scan.proofs.TextLemmas.{EndsInTwo-two, texts-two}
use Rattle.mbox_scan.proofs.MailboxLemmas.{is_mailbox-from, mailbox-begins, texts-append_mailbox, texts-proper_one}

-- ---- mailboxes
-- what follows the bytes of a mailbox leaves it one
pub is_mailbox-more : (b tail : List ℕ) → is_mailbox b ≡ true → 0 < length b → is_mailbox (b ++ tail) ≡ true
is_mailbox-more b tail m some = is_mailbox-from (b ++ tail) (inr (OccursAt-left b tail from_mark 0 (mailbox-begins b m some)))

-- a proper text begins a mailbox
pub is_mailbox-proper : (t tail : List ℕ) → IsProper t → is_mailbox (t ++ tail) ≡ true
is_mailbox-proper t tail h = is_mailbox-from (t ++ tail) (inr (OccursAt-left t tail from_mark 0 (starts_with-OccursAt t from_mark 0 (omega arith) h.begins)))

-- the texts of a mailbox follow those before two line feeds
pub texts-written : (b r : List ℕ) → is_mailbox r ≡ true → texts_of (written b ++ r) ≡ texts_of b ++ texts_of r
texts-written b r m = texts-append_mailbox (b ++ two_feeds) r (EndsInTwo-two b) m ∙ ap (λ (l : List (List ℕ)). l ++ texts_of r) (texts-two b)

-- ---- texts that are written
pub join-nil : join [] ≡ []
unfolding join
join-nil = refl

pub join-cons : (t : List ℕ) (ts : List (List ℕ)) → join (t ∷ ts) ≡ written t ++ join ts
unfolding join
join-cons t ts = refl

pub join-append : (xs ys : List (List ℕ)) → join (xs ++ ys) ≡ join xs ++ join ys
unfolding join
join-append [] ys = refl
join-append (x ∷ xs) ys = ap (λ (l : List ℕ). written x ++ l) (join-append xs ys) ∙ sym (append_assoc (written x) (join xs) (join ys))

-- a walk over a list puts one more text at the end
pub join-more : (file front : List ℕ) (xs : List (List ℕ)) (i : ℕ) (d : List ℕ) → i < length xs → file ≡ front ++ join (take i xs)
    → file ++ written (get_or xs i d) ≡ front ++ join (take (i + 1) xs)
join-more file front xs i d lt so_far =
    let x = get_or xs i d in
    let one : join (x ∷ []) ≡ written x = join-cons x [] ∙ ap (λ (l : List ℕ). written x ++ l) join-nil ∙ append-nil (written x) in
    ap (λ (l : List ℕ). l ++ written x) so_far
    ∙ append_assoc front (join (take i xs)) (written x)
    ∙ ap (λ (l : List ℕ). front ++ l) (sym (ap join (take_more xs i d lt) ∙ join-append (take i xs) (x ∷ []) ∙ ap (λ (l : List ℕ). join (take i xs) ++ l) one))

-- a walk that takes the texts off a list puts the next text at the end
pub join-next : (file whole t : List ℕ) (old new : List (List ℕ)) → old ≡ t ∷ new → file ++ join old ≡ whole → (file ++ written t) ++ join new ≡ whole
join-next file whole t old new e so_far =
    append_assoc file (written t) (join new) ∙ ap (λ (l : List ℕ). file ++ l) (sym (join-cons t new) ∙ ap join (sym e)) ∙ so_far

-- a mailbox after texts that are written
pub is_mailbox-join : (l : List (List ℕ)) (b : List ℕ) → All IsProper l → is_mailbox b ≡ true → is_mailbox (join l ++ b) ≡ true
is_mailbox-join [] b all m = ap (λ (x : List ℕ). is_mailbox (x ++ b)) join-nil ∙ m
is_mailbox-join (t ∷ ts) b all m =
    ap (λ (x : List ℕ). is_mailbox (x ++ b)) (join-cons t ts) ∙ ap is_mailbox (append_assoc (written t) (join ts) b ∙ append_assoc t two_feeds (join ts ++ b))
    ∙ is_mailbox-proper t (two_feeds ++ (join ts ++ b)) (All-head IsProper t ts all)

pub texts_of-join_front : (l : List (List ℕ)) (b : List ℕ) → All IsProper l → is_mailbox b ≡ true → texts_of (join l ++ b) ≡ l ++ texts_of b
texts_of-join_front [] b all m = ap (λ (x : List ℕ). texts_of (x ++ b)) join-nil
texts_of-join_front (t ∷ ts) b all m =
    let rest = All-tail IsProper t ts all in
    ap (λ (x : List ℕ). texts_of (x ++ b)) (join-cons t ts) ∙ ap texts_of (append_assoc (written t) (join ts) b)
    ∙ texts-written t (join ts ++ b) (is_mailbox-join ts b rest m)
    ∙ ap (λ (l : List (List ℕ)). l ++ texts_of (join ts ++ b)) (texts-proper_one t (All-head IsProper t ts all))
    ∙ ap (λ (l : List (List ℕ)). t ∷ l) (texts_of-join_front ts b rest m)
