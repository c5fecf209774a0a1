-- What names stand for: quoted strings without their backslashes, and parts joined.
use Rattle.std.proofs.Common.{◌≡◌, ◌≢◌, ℕ, suc, ◌+◌, ◌-◌, take, ◌<◌, ◌≤◌, Bool, true, false, not, ◌||◌, ◌==◌, if◌then◌else◌, List, [], ◌∷◌, ◌++◌, Option, Some, None, MatchBool, ◌⊎◌, inl, inr, refl, sym, ap, ◌∙◌, subst, length, drop, get_or, arith, append_assoc}
use Rattle.std.specs.List.{list_all}
use Rattle.std.proofs.lemmas.Bool.{cond-true, cond-false, ne_eqb, eqb-true, false≢true, and_parts, and_from, or_right, cases_Bool}
use Rattle.std.proofs.lemmas.List.{append-nil, take_all, at_drop_more, at_drop_all}
use Rattle.mail_addresses.specs.Lexical.{Lexeme, blanks, comment, atom, quoted, literal, mark, unclosed}
use Rattle.mail_addresses.specs.Forms.{unescaped, is_gap, is_part, part_text, IsName, IsDisplayName, spaced}
use Rattle.mail_addresses.specs.Forms.IsName.{one, beside}

abbrev is_nil : List Lexeme → Bool
is_nil [] = true
is_nil (t ∷ ts) = false

or_false : (b : Bool) → b ≡ (b || false)
or_false true = refl
or_false false = refl

-- ---- quoted strings without their backslashes

unescaped-byte : (b : ℕ) (bs : List ℕ) → b ≢ 92 → unescaped false (b ∷ bs) ≡ b ∷ unescaped false bs
unfolding unescaped
unescaped-byte b bs h = cond-false _ _ _ (ne_eqb b 92 h)

-- a byte that a backslash takes stays
pub unescaped-pair : (b : ℕ) (bs : List ℕ) → unescaped false (92 ∷ b ∷ bs) ≡ b ∷ unescaped false bs
unfolding unescaped
unescaped-pair b bs = refl

-- a backslash with nothing after it
pub unescaped-last : unescaped false (92 ∷ []) ≡ unescaped false []
unfolding unescaped
unescaped-last = refl

pub unescaped-nil : unescaped false [] ≡ []
unfolding unescaped
unescaped-nil = refl

-- bytes without a backslash stay
pub unescaped-run : (run rest : List ℕ) → ((k : ℕ) → k < length run → get_or run k 0 ≢ 92) → unescaped false (run ++ rest) ≡ run ++ unescaped false rest
unescaped-run [] rest plain = refl
unescaped-run (b ∷ bs) rest plain =
    unescaped-byte b (bs ++ rest) (plain 0 (omega arith)) ∙ ap (λ (l : List ℕ). b ∷ l) (unescaped-run bs rest (λ k l e. plain (suc k) (omega arith) e))

-- a run and a byte after a backslash are put
pub unescaped-step : (out more last run pair rest after whole : List ℕ) → more ≡ out ++ run → rest ≡ run ++ pair → ((k : ℕ) → k < length run → get_or run k 0 ≢ 92)
    → last ++ unescaped false after ≡ more ++ unescaped false pair → out ++ unescaped false rest ≡ whole → last ++ unescaped false after ≡ whole
unescaped-step out more last run pair rest after whole put cut plain taken so_far =
    taken
    ∙ ap (λ (l : List ℕ). l ++ unescaped false pair) put
    ∙ append_assoc out run (unescaped false pair)
    ∙ ap (λ (l : List ℕ). out ++ l) (sym (ap (unescaped false) cut ∙ unescaped-run run pair plain))
    ∙ so_far

-- what a backslash takes, and what is left after it
pub taken-last : (pair after : List ℕ) → pair ≡ 92 ∷ after → length pair < 2 → unescaped false pair ≡ unescaped false []
taken-last pair [] is short = ap (unescaped false) is ∙ unescaped-last
taken-last pair (b ∷ bs) is short = absurd (omega (arith, ap (λ (l : List ℕ). length l) is))

pub taken-pair : (out more pair after : List ℕ) → pair ≡ 92 ∷ after → 2 ≤ length pair → more ≡ out ++ get_or pair 1 0 ∷ []
    → more ++ unescaped false (take (length pair - 2) (drop 2 pair)) ≡ out ++ unescaped false pair
taken-pair out more pair [] is long put = absurd (omega (arith, ap (λ (l : List ℕ). length l) is))
taken-pair out more pair (b ∷ bs) is long put =
    let count : length (92 ∷ b ∷ bs) - 2 ≡ length bs = omega arith in
    let rest : take (length pair - 2) (drop 2 pair) ≡ bs = ap (λ (l : List ℕ). take (length l - 2) (drop 2 l)) is ∙ ap (λ (n : ℕ). take n bs) count ∙ take_all (length bs) bs (omega arith) in
    let byte : get_or pair 1 0 ≡ b = ap (λ (l : List ℕ). get_or l 1 0) is in
    ap (λ (l : List ℕ). more ++ unescaped false l) rest
    ∙ ap (λ (l : List ℕ). l ++ unescaped false bs) (put ∙ ap (λ (x : ℕ). out ++ x ∷ []) byte)
    ∙ append_assoc out (b ∷ []) (unescaped false bs)
    ∙ ap (λ (l : List ℕ). out ++ l) (sym (unescaped-pair b bs) ∙ ap (unescaped false) (sym is))

part_no_gap : (t : Lexeme) → is_part t ≡ true → is_gap t ≡ false
part_no_gap (blanks run) h = absurd (false≢true h)
part_no_gap (comment inside) h = absurd (false≢true h)
part_no_gap (atom run) h = refl
part_no_gap (quoted inside) h = refl
part_no_gap (literal inside) h = refl
part_no_gap (mark b) h = refl
part_no_gap (unclosed text) h = refl

-- a text in front of a text, where there is one
abbrev pub after : List ℕ → Option (List ℕ) → Option (List ℕ)
after text None = None
after text (Some rest) = Some (text ++ rest)

pub after-nil : (o : Option (List ℕ)) → after [] o ≡ o
after-nil None = refl
after-nil (Some rest) = refl

pub after-append : (xs ys : List ℕ) (o : Option (List ℕ)) → after (xs ++ ys) o ≡ after xs (after ys o)
after-append xs ys None = refl
after-append xs ys (Some rest) = ap (λ (r : List ℕ). Some r) (append_assoc xs ys rest)

-- what tokens add to a name, when a part stands before or not, and blanks after it or not
unfoldable pub name_from : Bool → Bool → List Lexeme → Option (List ℕ)
name_from begun apart [] = Some []
name_from begun apart (t ∷ ts) = if is_gap t then name_from begun begun ts else (if is_part t then after (spaced apart (part_text t)) (name_from true false ts) else None)

pub name_from-gap : (begun apart : Bool) (t : Lexeme) (ts : List Lexeme) → is_gap t ≡ true → name_from begun apart (t ∷ ts) ≡ name_from begun begun ts
unfolding name_from
name_from-gap begun apart t ts g = cond-true _ _ _ g

pub name_from-part : (begun apart : Bool) (t : Lexeme) (ts : List Lexeme) → is_gap t ≡ false → is_part t ≡ true
    → name_from begun apart (t ∷ ts) ≡ after (spaced apart (part_text t)) (name_from true false ts)
unfolding name_from
name_from-part begun apart t ts g p = cond-false _ _ _ g ∙ cond-true _ _ _ p

pub name_from-none : (begun apart : Bool) (t : Lexeme) (ts : List Lexeme) → is_gap t ≡ false → is_part t ≡ false → name_from begun apart (t ∷ ts) ≡ None
unfolding name_from
name_from-none begun apart t ts g p = cond-false _ _ _ g ∙ cond-false _ _ _ p

pub name_from-end : (begun apart : Bool) (i : ℕ) (ts : List Lexeme) → length ts ≤ i → name_from begun apart (drop i ts) ≡ Some []
unfolding name_from
name_from-end begun apart i ts h = at_drop_all (name_from begun apart) ts i h

-- blanks alone add nothing
only_gaps : (begun apart : Bool) (gs : List Lexeme) → list_all is_gap gs ≡ true → name_from begun apart gs ≡ Some []
unfolding name_from
only_gaps begun apart [] h = refl
only_gaps begun apart (g ∷ gs) h = let parts = and_parts _ _ h in cond-true _ _ _ parts.0 ∙ only_gaps begun begun gs parts.1

-- nor do blanks at the front, where no part stands before, or blanks after blanks
gaps_first : (b : Bool) (gs ts : List Lexeme) → list_all is_gap gs ≡ true → name_from b b (gs ++ ts) ≡ name_from b b ts
unfolding name_from
gaps_first b [] ts h = refl
gaps_first b (g ∷ gs) ts h = let parts = and_parts _ _ h in cond-true _ _ _ parts.0 ∙ gaps_first b gs ts parts.1

-- blanks after a part set the next one apart
gaps_between : (apart : Bool) (gs ts : List Lexeme) → gs ≢ [] → list_all is_gap gs ≡ true → name_from true apart (gs ++ ts) ≡ name_from true true ts
unfolding name_from
gaps_between apart [] ts n h = absurd (n refl)
gaps_between apart (g ∷ gs) ts n h = let parts = and_parts _ _ h in cond-true _ _ _ parts.0 ∙ gaps_first true gs ts parts.1

spaced-append : (apart : Bool) (xs ys : List ℕ) → spaced apart xs ++ ys ≡ spaced apart (xs ++ ys)
spaced-append true xs ys = refl
spaced-append false xs ys = refl

-- a name and blanks after it are read as the name
name_read : {ts : List Lexeme} {text : List ℕ} → IsName ts text → (begun apart : Bool) (gs : List Lexeme) → list_all is_gap gs ≡ true → name_from begun apart (ts ++ gs) ≡ Some (spaced apart text)
name_read (one {t} p) begun apart gs h =
    name_from-part begun apart t gs (part_no_gap t p) p ∙ ap (after (spaced apart (part_text t))) (only_gaps true false gs h) ∙ ap (λ (x : List ℕ). Some x) (append-nil (spaced apart (part_text t)))
name_read (beside {t} {ts} {text} p rest) begun apart gs h =
    name_from-part begun apart t (ts ++ gs) (part_no_gap t p) p ∙ ap (after (spaced apart (part_text t))) (name_read rest true false gs h)
    ∙ ap (λ (x : List ℕ). Some x) (spaced-append apart (part_text t) text)
name_read (IsName.apart {t} {ts} {text} gaps p n g rest) begun apart gs h =
    name_from-part begun apart t ((gaps ++ ts) ++ gs) (part_no_gap t p) p
    ∙ ap (λ (us : List Lexeme). after (spaced apart (part_text t)) (name_from true false us)) (append_assoc gaps ts gs)
    ∙ ap (after (spaced apart (part_text t))) (gaps_between false gaps (ts ++ gs) n g ∙ name_read rest true true gs h)
    ∙ ap (λ (x : List ℕ). Some x) (spaced-append apart (part_text t) (32 ∷ text))

-- a display name is what is read
pub name_is_read : (ts : List Lexeme) (text : List ℕ) → IsDisplayName ts text → name_from false false ts ≡ Some text
name_is_read ts text (inl (gaps, e)) = only_gaps false false ts gaps ∙ ap (λ (x : List ℕ). Some x) (sym e)
name_is_read ts text (inr padded) =
    ap (name_from false false) padded.whole ∙ gaps_first false padded.before (padded.name ++ padded.after) padded.gaps_before ∙ name_read padded.is_name false false padded.after padded.gaps_after

-- what follows a part: blanks alone, or blanks, a name and blanks
record More (apart : Bool) (ts : List Lexeme) (text : List ℕ) : Type 0 where
  gaps : List Lexeme
  name : List Lexeme
  last : List Lexeme
  added : List ℕ
  whole : ts ≡ gaps ++ (name ++ last)
  are_gaps : list_all is_gap gaps ≡ true
  gaps_after : list_all is_gap last ≡ true
  is_name : IsName name added
  is_text : text ≡ spaced (apart || not (is_nil gaps)) added

abbrev Rest : Bool → List Lexeme → List ℕ → Type 0
Rest apart ts text = ((list_all is_gap ts ≡ true) × (text ≡ [])) ⊎ More apart ts text

-- a part and what follows it
record FromPart (t : Lexeme) (ts : List Lexeme) (text : List ℕ) : Type 0 where
  name : List Lexeme
  last : List Lexeme
  whole : t ∷ ts ≡ name ++ last
  gaps_after : list_all is_gap last ≡ true
  is_name : IsName name (part_text t ++ text)

from_part : (t : Lexeme) (ts : List Lexeme) (text : List ℕ) → is_part t ≡ true → Rest false ts text → FromPart t ts text
from_part t ts text p (inl (gaps, e)) = record {
  name = t ∷ [];
  last = ts;
  whole = refl;
  gaps_after = gaps;
  is_name = subst (IsName (t ∷ [])) (sym (ap (λ (x : List ℕ). part_text t ++ x) e ∙ append-nil (part_text t))) (one p);
}
from_part t ts text p (inr more) = go more.gaps refl
  where
    go : (gs : List Lexeme) → more.gaps ≡ gs → FromPart t ts text
    go [] e = record {
      name = t ∷ more.name;
      last = more.last;
      whole = ap (λ (us : List Lexeme). t ∷ us) (more.whole ∙ ap (λ (us : List Lexeme). us ++ (more.name ++ more.last)) e);
      gaps_after = more.gaps_after;
      is_name = subst (λ (x : List ℕ). IsName (t ∷ more.name) (part_text t ++ x))
          (sym (more.is_text ∙ ap (λ (us : List Lexeme). spaced (false || not (is_nil us)) more.added) e)) (beside p more.is_name);
    }
    go (g ∷ gs) e = record {
      name = t ∷ ((g ∷ gs) ++ more.name);
      last = more.last;
      whole = ap (λ (us : List Lexeme). t ∷ us) (more.whole ∙ ap (λ (us : List Lexeme). us ++ (more.name ++ more.last)) e ∙ sym (append_assoc (g ∷ gs) more.name more.last));
      gaps_after = more.gaps_after;
      is_name = subst (λ (x : List ℕ). IsName (t ∷ ((g ∷ gs) ++ more.name)) (part_text t ++ x)) (sym (more.is_text ∙ ap (λ (us : List Lexeme). spaced (false || not (is_nil us)) more.added) e))
          (IsName.apart (g ∷ gs) p (λ h. cc) (subst (λ (us : List Lexeme). list_all is_gap us ≡ true) e more.are_gaps) more.is_name);
    }

-- what is read stands there
record IsAfter (text : List ℕ) (o : Option (List ℕ)) (whole : List ℕ) : Type 0 where
  rest : List ℕ
  is : o ≡ Some rest
  joined : whole ≡ text ++ rest

after_some : (text : List ℕ) (o : Option (List ℕ)) (whole : List ℕ) → after text o ≡ Some whole → IsAfter text o whole
after_some text None whole h = absurd (cc)
after_some text (Some rest) whole h = record { rest = rest; is = refl; joined = let e : text ++ rest ≡ whole = cc in sym e }

read_rest : (apart : Bool) (ts : List Lexeme) (text : List ℕ) → name_from true apart ts ≡ Some text → Rest apart ts text
unfolding name_from
read_rest apart [] text h = inl (refl, let e : [] ≡ text = cc in sym e)
read_rest apart (t ∷ ts) text h =
    elim (cases_Bool (is_gap t)) [
      | inl g ↦ elim (read_rest true ts text (sym (name_from-gap true apart t ts g) ∙ h)) [
        | inl (gaps, e) ↦ inl (and_from _ _ g gaps, e)
        | inr more ↦ inr record {
          gaps = t ∷ more.gaps;
          name = more.name;
          last = more.last;
          added = more.added;
          whole = ap (λ (us : List Lexeme). t ∷ us) more.whole;
          are_gaps = and_from _ _ g more.are_gaps;
          gaps_after = more.gaps_after;
          is_name = more.is_name;
          is_text = more.is_text ∙ ap (λ (b : Bool). spaced b more.added) (sym (or_right apart true refl));
        }
      ]
      | inr g ↦ elim (cases_Bool (is_part t)) [
        | inl p ↦ let a = after_some (spaced apart (part_text t)) (name_from true false ts) text (sym (name_from-part true apart t ts g p) ∙ h) in
            let f = from_part t ts a.rest p (read_rest false ts a.rest a.is) in inr record {
              gaps = [];
              name = f.name;
              last = f.last;
              added = part_text t ++ a.rest;
              whole = f.whole;
              are_gaps = refl;
              gaps_after = f.gaps_after;
              is_name = f.is_name;
              is_text = a.joined ∙ spaced-append apart (part_text t) a.rest ∙ ap (λ (b : Bool). spaced b (part_text t ++ a.rest)) (or_false apart);
            }
        | inr p ↦ let none_is : None ≡ Some text = sym (name_from-none true apart t ts g p) ∙ h in absurd (cc)
      ]
    ]

-- what is read is a display name
pub read_is_name : (ts : List Lexeme) (text : List ℕ) → name_from false false ts ≡ Some text → IsDisplayName ts text
unfolding name_from
read_is_name [] text h = inl (refl, let e : [] ≡ text = cc in sym e)
read_is_name (t ∷ ts) text h =
    elim (cases_Bool (is_gap t)) [
      | inl g ↦ elim (read_is_name ts text (sym (name_from-gap false false t ts g) ∙ h)) [
        | inl (gaps, e) ↦ inl (and_from _ _ g gaps, e)
        | inr padded ↦ inr record {
          before = t ∷ padded.before;
          name = padded.name;
          after = padded.after;
          whole = ap (λ (us : List Lexeme). t ∷ us) padded.whole;
          gaps_before = and_from _ _ g padded.gaps_before;
          gaps_after = padded.gaps_after;
          is_name = padded.is_name;
        }
      ]
      | inr g ↦ elim (cases_Bool (is_part t)) [
        | inl p ↦ let a = after_some (spaced false (part_text t)) (name_from true false ts) text (sym (name_from-part false false t ts g p) ∙ h) in
            let f = from_part t ts a.rest p (read_rest false ts a.rest a.is) in inr record {
              before = [];
              name = f.name;
              after = f.last;
              whole = f.whole;
              gaps_before = refl;
              gaps_after = f.gaps_after;
              is_name = subst (IsName f.name) (sym a.joined) f.is_name;
            }
        | inr p ↦ let none_is : None ≡ Some text = sym (name_from-none false false t ts g p) ∙ h in absurd (cc)
      ]
    ]

-- where nothing is read there is no name
pub no_name : (ts : List Lexeme) → name_from false false ts ≡ None → (text : List ℕ) → IsDisplayName ts text → ⊥
no_name ts h text d = let e : None ≡ Some text = sym h ∙ name_is_read ts text d in cc

-- one name is read
pub name_unique : (ts : List Lexeme) (a b : List ℕ) → IsDisplayName ts a → IsDisplayName ts b → a ≡ b
name_unique ts a b p q = let e : Some a ≡ Some b = sym (name_is_read ts a p) ∙ name_is_read ts b q in cc

-- the next token
pub name_from-here : (begun apart : Bool) (i : ℕ) (ts : List Lexeme) (t : Lexeme) → i < length ts → t ≡ get_or ts i t → name_from begun apart (drop i ts) ≡ name_from begun apart (t ∷ drop (i + 1) ts)
name_from-here begun apart i ts t lt is = at_drop_more (name_from begun apart) ts i t lt ∙ ap (λ (u : Lexeme). name_from begun apart (u ∷ drop (i + 1) ts)) (sym is)

pub same_state : (name more : List ℕ) (a b c d : Bool) (ts : List Lexeme) → name ≡ more → a ≡ b → c ≡ d → after name (name_from a c ts) ≡ after more (name_from b d ts)
same_state name more a b c d ts p q r = ap (λ (x : List ℕ). after x (name_from a c ts)) p ∙ ap (λ (x : Bool). after more (name_from x c ts)) q ∙ ap (λ (x : Bool). after more (name_from b x ts)) r

-- whether the name that is read has text
pub has_text : (ts : List Lexeme) (name bytes : List ℕ) (empty : Bool) → IsDisplayName ts name → bytes ≡ name → empty ≡ (length bytes == 0)
    → MatchBool (not empty) ((text : List ℕ) × IsDisplayName ts text × (text ≢ [])) ((text : List ℕ) → IsDisplayName ts text → text ≡ [])
has_text ts [] bytes true named e h = λ text d. name_unique ts text [] d named
has_text ts [] bytes false named e h = absurd (false≢true (h ∙ ap (λ (xs : List ℕ). length xs == 0) e))
has_text ts (b ∷ bs) bytes true named e h = let long : (length (b ∷ bs) == 0) ≡ true = sym (h ∙ ap (λ (xs : List ℕ). length xs == 0) e) in absurd (omega (arith, eqb-true _ _ long))
has_text ts (b ∷ bs) bytes false named e h = (b ∷ bs, named, λ z. cc)
