-- Who is answered, to whom a draft goes, and what it is.
use Rattle.std.proofs.Common.{◌≡◌, ◌≤◌, ℕ, Bool, true, false, if◌then◌else◌, List, [], ◌∷◌, ◌++◌, ◌==◌, Option, Some, None, Result, Ok, Err, map, take, drop, length, refl, sym, ap, ◌∙◌, append_assoc, append-nil, length-append, arith, codes, inl, inr}
use Rattle.std.specs.Prelude.{slice_get, unwrap_or}
use Rattle.std.proofs.lemmas.Bool.{cond-false}
use Rattle.std.proofs.Math.Seq.{take-append_seam, drop-append_seam}
use Rattle.mail_headers.specs.Field.{Field, unfolded}
use Rattle.mail_headers.specs.Header.{field_named}
use Rattle.mail_addresses.specs.declared.address.Address.{Address}
use Rattle.mail_addresses.specs.Lexical.{texts}
use Rattle.mail_addresses.specs.Listing.{pieces_from, Reads, IsFirstAddress}
use Rattle.mail_dates.specs.FromLines.{sender_of}
use Rattle.message_state.specs.declared.row.Row.{Row}
use Rattle.mail_dates.specs.Messages.{after_from}
use Rattle.message_state.specs.Rows.{IsFirstOf, IsRow, spec_or, value_or_empty}
use Rattle.name_lists.specs.Names.{has_name, with_names}
use Rattle.alias_groups.specs.declared.own.Own.{Own}
use Rattle.alias_groups.specs.Expansion.{dropped_names}
use Rattle.draft_text.specs.declared.draft.Draft.{Draft}
use Rattle.draft_text.specs.declared.reply.ReplyHow.{ReplyHow}
use Rattle.draft_text.specs.declared.reply.ReplyHow.TheVariants.{All}
use Rattle.draft_text.specs.Addresses.{addresses_of}
use Rattle.draft_text.specs.Replies.{answer, answer_subject, answered, AreAddressees, author_of, bare_addresses, cc_names, draft_of, reply, to_names, unless_empty, with_other, with_others}
use Rattle.draft_text.proofs.AddressesLemmas.{addresses-read, addresses-fault}

-- ---- the author

no-bytes : Reads [] []
unfolding pieces_from texts
no-bytes = record { tokens = []; are_tokens = record { joined = refl; stand = tt }; lists = ([], ([], refl, inl (refl, refl), refl)) }

-- the spec of the first of some addresses, or what stands in its place
first-spec : (list : List Address) (other : List ℕ) → spec_or other (slice_get list 0) ≡ unwrap_or (slice_get (map (λ (a : Address). a.spec) list) 0) other
first-spec [] other = refl
first-spec (a ∷ later) other = refl

first-is : (value other : List ℕ) (found : Option Address) → IsFirstAddress value found → spec_or other found ≡ unwrap_or (slice_get (map (λ (a : Address). a.spec) (addresses_of value)) 0) other
first-is value other found (inl is) =
    ap (spec_or other) is.2
    ∙ first-spec is.0 other
    ∙ ap (λ (list : List Address). unwrap_or (slice_get (map (λ (a : Address). a.spec) list) 0) other) (sym (addresses-read value is.0 is.1))
first-is value other found (inr is) =
    ap (spec_or other) is.2
    ∙ ap (λ (list : List Address). unwrap_or (slice_get (map (λ (a : Address). a.spec) list) 0) other) (sym (addresses-fault value is.0 is.1))

first-of-is : (field : Option Field) (other : List ℕ) (found : Option Address) → IsFirstOf field found
    → spec_or other found ≡ unwrap_or (slice_get (map (λ (a : Address). a.spec) (addresses_of (value_or_empty field))) 0) other
first-of-is None other found is =
    ap (spec_or other) is
    ∙ ap (λ (list : List Address). unwrap_or (slice_get (map (λ (a : Address). a.spec) list) 0) other) (sym (addresses-read [] [] no-bytes))
first-of-is (Some field) other found is = first-is (unfolded field) other found is

pub author-is : (text : List ℕ) (row : Row) → IsRow text row → row.texts.author ≡ author_of text
author-is text row is =
    let author = is.texts.author in
    author.2 ∙ first-of-is (field_named (codes "From") text) (sender_of (after_from text)) author.0 author.1

-- ---- to whom it goes

abbrev pub Names : Type 0
Names = List (List ℕ)

-- names are put after those that there are
record Grows (names more : Names) : Type 0 where
  rest : Names
  whole : more ≡ names ++ rest

same-grows : (names : Names) → Grows names names
same-grows names = record { rest = []; whole = sym (append-nil names) }

other-grows : (dropped names : Names) (name : List ℕ) → Grows names (with_other dropped names name)
other-grows dropped names name = go (has_name dropped name) (has_name names name)
  where
    go : (d h : Bool) → Grows names (if d then names else if h then names else names ++ name ∷ [])
    go true h = same-grows names
    go false true = same-grows names
    go false false = record { rest = name ∷ []; whole = refl }

others-grow : (dropped names others : Names) → Grows names (with_others dropped names others)
others-grow dropped names [] = same-grows names
others-grow dropped names (name ∷ others) =
    let one = other-grows dropped names name in
    let later = others-grow dropped (with_other dropped names name) others in
    record { rest = one.rest ++ later.rest; whole = later.whole ∙ ap (λ (ns : Names). ns ++ later.rest) one.whole ∙ append_assoc names one.rest later.rest }

-- the names that were there are in front
pub others-front : (dropped names others : Names) → take (length names) (with_others dropped names others) ≡ names
others-front dropped names others =
    let grows = others-grow dropped names others in
    ap (take (length names)) grows.whole ∙ take-append_seam names grows.rest

pub others-length : (dropped names others : Names) → length names ≤ length (with_others dropped names others)
others-length dropped names others =
    let grows = others-grow dropped names others in
    omega (arith, ap (λ (ns : Names). length ns) grows.whole, length-append names grows.rest)

-- what they add stands after them
pub others-whole : (dropped names others : Names) → names ++ drop (length names) (with_others dropped names others) ≡ with_others dropped names others
others-whole dropped names others =
    let grows = others-grow dropped names others in
    ap (λ (ns : Names). names ++ ns) (ap (drop (length names)) grows.whole ∙ drop-append_seam names grows.rest) ∙ sym grows.whole

-- who is answered, the others of `To` and then those of `Cc` are put, and the names are cut where the first two end
pub addressees-are : (dropped start to cc names all : Names) (text : List ℕ) (count : ℕ) → start ≡ with_names [] (answered text) → to ≡ bare_addresses (codes "To") text
    → cc ≡ bare_addresses (codes "Cc") text → names ≡ with_others dropped start to → count ≡ length names → all ≡ with_others dropped names cc
    → (take count all ≡ to_names All dropped text) × (drop count all ≡ cc_names All dropped text)
addressees-are dropped start to cc names all text count is-start is-to is-cc is-names is-count is-all =
    let known : names ≡ to_names All dropped text = is-names ∙ (λ i. with_others dropped (is-start i) (is-to i)) in
    let whole : all ≡ with_others dropped (to_names All dropped text) (bare_addresses (codes "Cc") text) = is-all ∙ (λ i. with_others dropped (known i) (is-cc i)) in
    let counted : count ≡ length (to_names All dropped text) = is-count ∙ ap (λ (ns : Names). length ns) known in (
      (λ i. take (counted i) (whole i)) ∙ others-front dropped (to_names All dropped text) (bare_addresses (codes "Cc") text),
      λ i. drop (counted i) (whole i),
    )

-- ---- the draft

pub answer-is : (how : ReplyHow) (dropped : Names) (text : List ℕ) (row : Row) (to cc : Names) → IsRow text row → AreAddressees how dropped text (to, cc) → draft_of row to cc ≡ answer how dropped text
unfolding answer
answer-is how dropped text row to cc is are = λ i. record {
  to = are.0 i;
  cc = are.1 i;
  bcc = [];
  subject = answer_subject (is.texts.subject i);
  from = [];
  reply = is.texts.own_id i;
  references = is.references i ++ unless_empty (is.texts.own_id i);
  body = [];
}

-- what is made of the parts is what is meant
pub reply-made : (how : ReplyHow) (own : Own) (metoo : Bool) (text header : List ℕ) (row : Row) (dropped authors to cc : Names) → header ≡ text → IsRow text row
    → authors ≡ answered header → (length authors == 0) ≡ false → dropped ≡ dropped_names own metoo → AreAddressees how dropped header (to, cc)
    → reply how own metoo text ≡ Some (draft_of row to cc)
reply-made how own metoo text header row dropped authors to cc is row-is is-authors some is-dropped are =
    let somebody : (length (answered text) == 0) ≡ false = sym (λ i. length ((is-authors ∙ ap answered is) i) == 0) ∙ some in
    let both : AreAddressees how (dropped_names own metoo) text (to, cc) = (are.0 ∙ (λ i. to_names how (is-dropped i) (is i)), are.1 ∙ (λ i. cc_names how (is-dropped i) (is i))) in
    cond-false _ _ _ somebody ∙ ap (λ (d : Draft). Some d) (sym (answer-is how (dropped_names own metoo) text row to cc row-is both))

abbrev ok-or : {A E : Type 0} → A → Result A E → A
ok-or other (Ok x) = x
ok-or other (Err e) = other

pub ok-same : {A E : Type 0} (x y : A) → (let r : Result A E = Ok x in r) ≡ Ok y → x ≡ y
ok-same x y is = ap (ok-or x) is
