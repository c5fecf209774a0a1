-- The spans of a folder, one more at a time.
use Rattle.std.proofs.Common.{◌≡◌, ℕ, ◌+◌, ◌-◌, ◌≤◌, ◌<◌, true, List, [], ◌∷◌, ◌++◌, Some, length, take, drop, get_or, slice_get, map, option_map, refl, sym, ap, ◌∙◌, arith, append_assoc, drop-drop, length-append, length-drop}
use Rattle.std.proofs.lemmas.List.{map-append, append-nil, length-map}
use Rattle.std.proofs.lemmas.Option.{slice_get-map, slice_get_read}
use Rattle.std.proofs.lemmas.List.Elements.{All-push, All-same}
use Rattle.mbox_scan.specs.declared.span.Span.{Span}
use Rattle.mbox_scan.specs.Mailbox.{is_mailbox, texts_of, starts, message_limit}
use Rattle.mbox_scan.specs.Spans.{text_at, IsWithin, IsScanned, IsScannedTo}
use Rattle.mbox_scan.proofs.TextLemmas.{length-texts}
use Rattle.mbox_scan.proofs.MailboxLemmas.{texts-end, texts-some}

pub span-more : (b rest : List ℕ) (spans more : List Span) (start end next : ℕ) → IsScannedTo b spans start → rest ≡ drop start b → length spans < message_limit
    → texts_of rest ≡ take end rest ∷ texts_of (drop next rest) → is_mailbox (drop next rest) ≡ true → end ≤ next → next ≤ length rest
    → more ≡ spans ++ record { start = start; len = end } ∷ [] → IsScannedTo b more (start + next)
span-more b rest spans more start end next h part room texts mailbox order within pushed =
    let s : Span = record { start = start; len = end } in
    let start_within = h.start_within in
    let long : length rest ≡ length b - start = ap (λ (l : List ℕ). length l) part ∙ length-drop start b in
    let later : drop next rest ≡ drop (start + next) b = ap (drop next) part ∙ drop-drop next start b in
    let count : start + end - start ≡ end = omega arith in
    let text : text_at b s ≡ take end rest = ap (λ (n : ℕ). take n (drop start b)) count ∙ ap (take end) (sym part) in
    let front = map (text_at b) spans in
    record {
      start_within = omega arith;
      mailbox = ap is_mailbox (sym later) ∙ mailbox;
      so_far =
          ap (λ (l : List Span). map (text_at b) l ++ texts_of (drop (start + next) b)) pushed
          ∙ ap (λ (l : List (List ℕ)). l ++ texts_of (drop (start + next) b)) (map-append (text_at b) spans (s ∷ []))
          ∙ append_assoc front (text_at b s ∷ []) (texts_of (drop (start + next) b))
          ∙ ap (λ (t : List ℕ). front ++ t ∷ texts_of (drop (start + next) b)) text
          ∙ ap (λ (l : List ℕ). front ++ take end rest ∷ texts_of l) (sym later)
          ∙ ap (λ (l : List (List ℕ)). front ++ l) (sym texts ∙ ap texts_of part)
          ∙ h.so_far;
      within = All-same (IsWithin b) more (spans ++ s ∷ []) pushed (All-push (IsWithin b) spans s h.within (omega arith));
      few = omega (arith, ap (λ (l : List Span). length l) pushed, length-append spans (s ∷ []));
    }

pub spans-all : (b : List ℕ) (spans : List Span) (start : ℕ) → IsScannedTo b spans start → length b ≤ start → is_mailbox b ≡ true → IsScanned b spans
spans-all b spans start h past mailbox = record {
  mailbox = mailbox;
  texts = sym (append-nil (map (text_at b) spans)) ∙ ap (λ (l : List (List ℕ)). map (text_at b) spans ++ l) (sym (texts-end b start past)) ∙ h.so_far;
  within = h.within;
  few = h.few;
}

-- how many messages start, where some were found and the rest are counted
pub starts-count : (b rest : List ℕ) (spans : List Span) (start : ℕ) → IsScannedTo b spans start → rest ≡ drop start b → length spans + length (texts_of rest) ≡ length (starts b)
starts-count b rest spans start h part =
    let all : length (map (text_at b) spans ++ texts_of (drop start b)) ≡ length (starts b) = ap (λ (l : List (List ℕ)). length l) h.so_far ∙ length-texts b in
    let same : length (texts_of rest) ≡ length (texts_of (drop start b)) = ap (λ (l : List ℕ). length (texts_of l)) part in
    omega (arith, length-append (map (text_at b) spans) (texts_of (drop start b)), length-map spans (text_at b))

-- where bytes are left, a text is left
pub one-more : (b rest : List ℕ) (spans : List Span) (start : ℕ) → IsScannedTo b spans start → rest ≡ drop start b → 0 < length rest → length spans < length (texts_of b)
one-more b rest spans start h part some =
    let mailbox : is_mailbox rest ≡ true = ap is_mailbox part ∙ h.mailbox in
    let count = starts-count b rest spans start h part in
    omega (arith, texts-some rest mailbox some, length-texts b)

-- the text at a span that was read
pub text-read : (b bytes : List ℕ) (spans : List Span) (k : ℕ) (s : Span) → IsScanned b spans → bytes ≡ b → k < length (texts_of b) → s ≡ get_or spans k s
    → slice_get (texts_of b) k ≡ Some (text_at bytes s)
text-read b bytes spans k s h same lt read =
    let count : length spans ≡ length (texts_of b) = sym (length-map spans (text_at b)) ∙ ap (λ (l : List (List ℕ)). length l) h.texts in
    ap (λ (l : List (List ℕ)). slice_get l k) (sym h.texts) ∙ slice_get-map (text_at b) spans k
    ∙ ap (option_map (text_at b)) (slice_get_read spans (length spans) k s refl (omega arith) read)
    ∙ ap (λ (l : List ℕ). Some (text_at l s)) (sym same)
