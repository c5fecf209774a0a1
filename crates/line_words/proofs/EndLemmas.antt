-- Each line has parts or an open quote.
use Rattle.std.proofs.Common.{◌≡◌, ◌⊎◌, ℕ, ◌==◌, ◌&&◌, Bool, true, false, not, ◌||◌, List, [], ◌∷◌, ◌++◌, refl, sym, ap, subst, ◌∙◌, inl, inr, append_assoc, append-nil}
use Rattle.std.proofs.lemmas.Bool.{cases_Bool, eqb-true, and_parts, and_from, not_from_false}
use Rattle.line_words.specs.Enclosed.{is_inner_byte, InString, no_byte, one_byte, taken_byte, IsClosed, nothing, inner, string, group, IsEnclosed, IsUnclosed, one, more}
use Rattle.line_words.specs.Words.{is_quote, lacks, Part, blank, plain, escaped, backslash, quoted, enclosed, text_of, is_gap, IsPart, StandBefore, HasOpenFrom}
use Rattle.mail_text.specs.Ascii.{is_blank}

abbrev pub Ends : Bool → Bool → List ℕ → Type 0
Ends lists takes bytes = ((parts : List Part) × StandBefore lists takes bytes parts []) ⊎ HasOpenFrom lists takes bytes

behind : (lists takes : Bool) (part : Part) (bytes after : List ℕ) → bytes ≡ text_of part ++ after → IsPart takes part after → Ends lists (is_gap part && lists) after → Ends lists takes bytes
behind lists takes part bytes after is fits (inl (parts, are)) = inl (part ∷ parts, (after, is, fits, are))
behind lists takes part bytes after is fits (inr o) = inr (record { parts = part ∷ o.parts; rest = o.rest; stand = (after, is, fits, o.stand); opens = o.opens })

-- bytes plainly, after a backslash, after a quote and a run, in parentheses, and in a string there
pub record AllEnd (lists : Bool) (bs : List ℕ) : Type 0 where
  pub plainly : (takes : Bool) → Ends lists takes bs
  pub behind_backslash : (takes : Bool) → Ends lists takes (92 ∷ bs)
  pub behind_quote : (takes : Bool) (quote : ℕ) (front : List ℕ) → is_quote quote ≡ true → lacks quote front ≡ true → Ends lists takes (quote ∷ (front ++ bs))
  pub in_parens : (text : List ℕ) → IsUnclosed text → Ends lists true (text ++ bs)
  pub in_string : (text s : List ℕ) → IsUnclosed text → InString s → Ends lists true (text ++ 34 ∷ (s ++ bs))
  pub in_taken : (text s : List ℕ) → IsUnclosed text → InString s → Ends lists true (text ++ 34 ∷ (s ++ 92 ∷ bs))

lacks_more : (quote : ℕ) (front : List ℕ) (b : ℕ) → lacks quote front ≡ true → (b == quote) ≡ false → lacks quote (front ++ b ∷ []) ≡ true
lacks_more quote [] b lacking other = and_from _ _ (not_from_false _ other) refl
lacks_more quote (c ∷ front) b lacking other =
    let both = and_parts _ _ lacking in
    and_from _ _ both.0 (lacks_more quote front b both.1 other)

none_from : (x y z : Bool) → x ≡ false → y ≡ false → z ≡ false → not (x || y || z) ≡ true
none_from x y z first second third = rw (first, second, third) refl

neither_from : (x y : Bool) → x ≡ false → y ≡ false → not (x || y) ≡ true
neither_from x y first second = rw (first, second) refl

quote_ends : (lists takes : Bool) (b quote : ℕ) (front bs : List ℕ) → is_quote quote ≡ true → lacks quote front ≡ true → AllEnd lists bs → Ends lists takes (quote ∷ (front ++ b ∷ bs))
quote_ends lists takes b quote front bs is lacking later = elim (cases_Bool (b == quote)) [
  | inl closes ↦ behind lists takes (quoted quote front) (quote ∷ (front ++ b ∷ bs)) bs
      (ap (λ (bytes : List ℕ). quote ∷ bytes) (ap (λ (c : ℕ). front ++ c ∷ bs) (eqb-true b quote closes) ∙ sym (append_assoc front (quote ∷ []) bs)))
      (is, lacking) (later.plainly false)
  | inr other ↦ subst (λ (bytes : List ℕ). Ends lists takes (quote ∷ bytes)) (append_assoc front (b ∷ []) bs)
      (later.behind_quote takes quote (front ++ b ∷ []) is (lacks_more quote front b lacking other))
]

-- bytes that are closed may follow what nothing closes
grow : {text : List ℕ} → IsUnclosed text → (x : List ℕ) → ((bs : List ℕ) → IsClosed bs → IsClosed (bs ++ x)) → IsUnclosed (text ++ x)
grow (one bs c) x each = one (bs ++ x) (each bs c)
grow (more text bs u c) x each = subst IsUnclosed (sym (append_assoc text (40 ∷ bs) x)) (more text (bs ++ x) u (each bs c))

-- `)` closes the last parenthesis
close : {text : List ℕ} → IsUnclosed text → IsEnclosed (text ++ 41 ∷ []) ⊎ IsUnclosed (text ++ 41 ∷ [])
close (one bs c) = inl (bs, c, refl)
close (more text bs u c) = inr (subst IsUnclosed (sym (append_assoc text (40 ∷ bs) (41 ∷ []))) (grow u (40 ∷ (bs ++ 41 ∷ [])) (λ cs d. group cs bs d c)))

closer_ends : (lists : Bool) (bs text : List ℕ) → IsUnclosed text → AllEnd lists bs → Ends lists true (text ++ 41 ∷ bs)
closer_ends lists bs text u later = elim (close u) [
  | inl whole ↦ behind lists true (enclosed (text ++ 41 ∷ [])) (text ++ 41 ∷ bs) bs (sym (append_assoc text (41 ∷ []) bs)) (refl, inl whole) (later.plainly false)
  | inr begun ↦ subst (Ends lists true) (append_assoc text (41 ∷ []) bs) (later.in_parens (text ++ 41 ∷ []) begun)
]

inner_ends : (lists : Bool) (b : ℕ) (bs text : List ℕ) → is_inner_byte b ≡ true → IsUnclosed text → AllEnd lists bs → Ends lists true (text ++ b ∷ bs)
inner_ends lists b bs text is u later =
    subst (Ends lists true) (append_assoc text (b ∷ []) bs) (later.in_parens (text ++ b ∷ []) (grow u (b ∷ []) (λ cs c. inner cs b c is)))

parens_end : (lists : Bool) (b : ℕ) (bs text : List ℕ) → IsUnclosed text → AllEnd lists bs → Ends lists true (text ++ b ∷ bs)
parens_end lists b bs text u later =
    let P : ℕ → Type 0 = λ c. Ends lists true (text ++ c ∷ bs) in
    elim (cases_Bool (b == 34)) [
      | inl is ↦ subst P (sym (eqb-true b 34 is)) (later.in_string text [] u no_byte)
      | inr no_quote ↦ elim (cases_Bool (b == 40)) [
        | inl is ↦ subst P (sym (eqb-true b 40 is)) (subst (Ends lists true) (append_assoc text (40 ∷ []) bs) (later.in_parens (text ++ 40 ∷ []) (more text [] u nothing)))
        | inr no_opener ↦ elim (cases_Bool (b == 41)) [
          | inl is ↦ subst P (sym (eqb-true b 41 is)) (closer_ends lists bs text u later)
          | inr no_closer ↦ inner_ends lists b bs text (none_from _ _ _ no_quote no_opener no_closer) u later
        ]
      ]
    ]

string_closes : (lists : Bool) (bs text s : List ℕ) → IsUnclosed text → InString s → AllEnd lists bs → Ends lists true (text ++ 34 ∷ (s ++ 34 ∷ bs))
string_closes lists bs text s u str later =
    let run = 34 ∷ (s ++ 34 ∷ []) in
    subst (Ends lists true) (append_assoc text run bs ∙ ap (λ (x : List ℕ). text ++ 34 ∷ x) (append_assoc s (34 ∷ []) bs))
    (later.in_parens (text ++ run) (grow u run (λ cs c. string cs s c str)))

string_goes : (lists : Bool) (x bs text s : List ℕ) → IsUnclosed text → InString (s ++ x) → AllEnd lists bs → Ends lists true (text ++ 34 ∷ (s ++ (x ++ bs)))
string_goes lists x bs text s u str later = subst (λ (y : List ℕ). Ends lists true (text ++ 34 ∷ y)) (append_assoc s x bs) (later.in_string text (s ++ x) u str)

string_ends : (lists : Bool) (b : ℕ) (bs text s : List ℕ) → IsUnclosed text → InString s → AllEnd lists bs → Ends lists true (text ++ 34 ∷ (s ++ b ∷ bs))
string_ends lists b bs text s u str later =
    let P : ℕ → Type 0 = λ c. Ends lists true (text ++ 34 ∷ (s ++ c ∷ bs)) in
    elim (cases_Bool (b == 34)) [
      | inl is ↦ subst P (sym (eqb-true b 34 is)) (string_closes lists bs text s u str later)
      | inr no_quote ↦ elim (cases_Bool (b == 92)) [
        | inl is ↦ subst P (sym (eqb-true b 92 is)) (later.in_taken text s u str)
        | inr other ↦ string_goes lists (b ∷ []) bs text s u (one_byte s b str (neither_from _ _ no_quote other)) later
      ]
    ]

paren_begins : (lists takes : Bool) (b : ℕ) (bs : List ℕ) → (b == 40 && takes) ≡ true → AllEnd lists bs → Ends lists takes (b ∷ bs)
paren_begins lists takes b bs is later =
    let both = and_parts _ _ is in
    subst (λ (t : Bool). Ends lists t (b ∷ bs)) (sym both.1)
    (subst (λ (c : ℕ). Ends lists true (c ∷ bs)) (sym (eqb-true b 40 both.0)) (later.in_parens (40 ∷ []) (one [] nothing)))

solid_ends : (lists takes : Bool) (b : ℕ) (bs : List ℕ) → is_blank b ≡ false → AllEnd lists bs → Ends lists takes (b ∷ bs)
solid_ends lists takes b bs no_blank later = elim (cases_Bool (b == 40 && takes)) [
  | inl is ↦ paren_begins lists takes b bs is later
  | inr no_paren ↦ elim (cases_Bool (is_quote b)) [
    | inl is ↦ later.behind_quote takes b [] is refl
    | inr no_quote ↦ elim (cases_Bool (b == 92)) [
      | inl is ↦ subst (λ (c : ℕ). Ends lists takes (c ∷ bs)) (sym (eqb-true b 92 is)) (later.behind_backslash takes)
      | inr other ↦ behind lists takes (plain b) (b ∷ bs) bs refl (none_from _ _ _ no_blank no_quote other, no_paren) (later.plainly false)
    ]
  ]
]

byte_ends : (lists takes : Bool) (b : ℕ) (bs : List ℕ) → AllEnd lists bs → Ends lists takes (b ∷ bs)
byte_ends lists takes b bs later = elim (cases_Bool (is_blank b)) [
  | inl is ↦ behind lists takes (blank b) (b ∷ bs) bs refl is (later.plainly lists)
  | inr other ↦ solid_ends lists takes b bs other later
]

pub all_end : (lists : Bool) (bs : List ℕ) → AllEnd lists bs
all_end lists [] = record {
  plainly = λ takes. inl ([], refl);
  behind_backslash = λ takes. behind lists takes backslash (92 ∷ []) [] refl refl (inl ([], refl));
  behind_quote = λ takes quote front is lacking. inr (record {
    parts = [];
    rest = quote ∷ (front ++ []);
    stand = refl;
    opens = inl (quote, (front ++ [], is, ap (lacks quote) (append-nil front) ∙ lacking, refl));
  });
  in_parens = λ text u. behind lists true (enclosed text) (text ++ []) [] refl (refl, inr (u, refl)) (inl ([], refl));
  in_string = λ text s u str. inr (record {
    parts = [];
    rest = text ++ 34 ∷ (s ++ []);
    stand = refl;
    opens = inr (refl, (text, (s ++ [], u, inl (subst InString (sym (append-nil s)) str), refl)));
  });
  in_taken = λ text s u str. inr (record {
    parts = [];
    rest = text ++ 34 ∷ (s ++ 92 ∷ []);
    stand = refl;
    opens = inr (refl, (text, (s ++ 92 ∷ [], u, inr (s, str, refl), refl)));
  });
}
all_end lists (b ∷ bs) =
    let later = all_end lists bs in record {
      plainly = λ takes. byte_ends lists takes b bs later;
      behind_backslash = λ takes. behind lists takes (escaped b) (92 ∷ b ∷ bs) bs refl tt (later.plainly false);
      behind_quote = λ takes quote front is lacking. quote_ends lists takes b quote front bs is lacking later;
      in_parens = λ text u. parens_end lists b bs text u later;
      in_string = λ text s u str. string_ends lists b bs text s u str later;
      in_taken = λ text s u str. string_goes lists (92 ∷ b ∷ []) bs text s u (taken_byte s b str) later;
    }
