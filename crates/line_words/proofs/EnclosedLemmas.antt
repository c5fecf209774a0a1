-- What parentheses enclose is read as it stands.
use Rattle.std.proofs.Common.{◌≡◌, ℕ, suc, ◌-◌, ◌==◌, ◌&&◌, Bool, true, false, not, ◌||◌, List, [], ◌∷◌, ◌++◌, None, refl, sym, ap, ◌∙◌, inl, inr, append_assoc, append-nil, arith}
use Rattle.std.proofs.lemmas.Bool.{cond-false, ne_eqb, false≢true}
use Rattle.std.specs.Option.{option_map}
use Rattle.line_words.specs.Enclosed.{InString, no_byte, one_byte, taken_byte, IsOpenString, IsClosed, nothing, inner, string, group, IsEnclosed, IsUnclosed, one, more}
use Rattle.line_words.specs.Words.{Part, enclosed, parts_of, enclosed_parts, string_parts, taken_parts}
use Rattle.line_words.proofs.PartLemmas.{none_of}

neither : (x y : Bool) → not (x || y) ≡ true → (x ≡ false) × (y ≡ false)
neither true y h = absurd (false≢true h)
neither false true h = absurd (false≢true h)
neither false false h = (refl, refl)

string_read : {s : List ℕ} → InString s → (lists : Bool) (n : ℕ) (text rest : List ℕ) → string_parts lists n text (s ++ rest) ≡ string_parts lists n (text ++ s) rest
unfolding string_parts taken_parts
string_read no_byte lists n text rest = ap (λ (t : List ℕ). string_parts lists n t rest) (sym (append-nil text))
string_read (one_byte s b str is) lists n text rest =
    let not_it = neither (b == 34) (b == 92) is in
    ap (string_parts lists n text) (append_assoc s (b ∷ []) rest)
    ∙ string_read str lists n text (b ∷ rest)
    ∙ cond-false _ _ _ not_it.0 ∙ cond-false _ _ _ not_it.1
    ∙ ap (λ (t : List ℕ). string_parts lists n t rest) (append_assoc text s (b ∷ []))
string_read (taken_byte s b str) lists n text rest =
    ap (string_parts lists n text) (append_assoc s (92 ∷ b ∷ []) rest)
    ∙ string_read str lists n text (92 ∷ b ∷ rest)
    ∙ ap (λ (t : List ℕ). string_parts lists n t rest) (append_assoc (text ++ s) (92 ∷ []) (b ∷ []) ∙ append_assoc text s (92 ∷ b ∷ []))

-- `)` closes a parenthesis that isn't the first
closer_read : (lists : Bool) (n : ℕ) (text rest : List ℕ) → enclosed_parts lists (suc n) text (41 ∷ rest) ≡ enclosed_parts lists n (text ++ 41 ∷ []) rest
unfolding enclosed_parts
closer_read lists n text rest =
    let deeper : (suc n == 0) ≡ false = ne_eqb (suc n) 0 (omega arith) in
    let left : suc n - 1 ≡ n = omega arith in
    cond-false _ _ _ deeper ∙ ap (λ (m : ℕ). enclosed_parts lists m (text ++ 41 ∷ []) rest) left

pub closed_read : {cs : List ℕ} → IsClosed cs → (lists : Bool) (n : ℕ) (text rest : List ℕ) → enclosed_parts lists n text (cs ++ rest) ≡ enclosed_parts lists n (text ++ cs) rest
unfolding enclosed_parts string_parts
closed_read nothing lists n text rest = ap (λ (t : List ℕ). enclosed_parts lists n t rest) (sym (append-nil text))
closed_read (inner bs b c is) lists n text rest =
    let not_it = none_of (b == 34) (b == 40) (b == 41) is in
    ap (enclosed_parts lists n text) (append_assoc bs (b ∷ []) rest)
    ∙ closed_read c lists n text (b ∷ rest)
    ∙ cond-false _ _ _ not_it.0 ∙ cond-false _ _ _ not_it.1 ∙ cond-false _ _ _ (ap (λ (t : Bool). t && n == 0) not_it.2)
    ∙ ap (λ (m : ℕ). enclosed_parts lists m ((text ++ bs) ++ b ∷ []) rest) (cond-false _ _ _ not_it.2)
    ∙ ap (λ (t : List ℕ). enclosed_parts lists n t rest) (append_assoc text bs (b ∷ []))
closed_read (string bs s c str) lists n text rest =
    let front = (text ++ bs) ++ 34 ∷ [] in
    ap (enclosed_parts lists n text) (append_assoc bs (34 ∷ (s ++ 34 ∷ [])) rest)
    ∙ closed_read c lists n text (34 ∷ ((s ++ 34 ∷ []) ++ rest))
    ∙ ap (string_parts lists n front) (append_assoc s (34 ∷ []) rest)
    ∙ string_read str lists n front (34 ∷ rest)
    ∙ ap (λ (t : List ℕ). enclosed_parts lists n t rest)
    (append_assoc front s (34 ∷ []) ∙ append_assoc (text ++ bs) (34 ∷ []) (s ++ 34 ∷ []) ∙ append_assoc text bs (34 ∷ (s ++ 34 ∷ [])))
closed_read (group bs cs c d) lists n text rest =
    let front = (text ++ bs) ++ 40 ∷ [] in
    ap (enclosed_parts lists n text) (append_assoc bs (40 ∷ (cs ++ 41 ∷ [])) rest)
    ∙ closed_read c lists n text (40 ∷ ((cs ++ 41 ∷ []) ++ rest))
    ∙ ap (enclosed_parts lists (suc n) front) (append_assoc cs (41 ∷ []) rest)
    ∙ closed_read d lists (suc n) front (41 ∷ rest)
    ∙ closer_read lists n (front ++ cs) rest
    ∙ ap (λ (t : List ℕ). enclosed_parts lists n t rest)
    (append_assoc front cs (41 ∷ []) ∙ append_assoc (text ++ bs) (40 ∷ []) (cs ++ 41 ∷ []) ∙ append_assoc text bs (40 ∷ (cs ++ 41 ∷ [])))

-- what nothing closes is read with the depth that it leaves
pub begun_read : {text : List ℕ} → IsUnclosed text → (lists : Bool) → (n : ℕ) × ((rest : List ℕ) → parts_of lists true (text ++ rest) ≡ enclosed_parts lists n text rest)
unfolding parts_of enclosed_parts
begun_read (one bs c) lists = (0, λ rest. closed_read c lists 0 (40 ∷ []) rest)
begun_read (more text bs u c) lists =
    let before = begun_read u lists in (
      suc before.0,
      λ rest.
          ap (parts_of lists true) (append_assoc text (40 ∷ bs) rest)
          ∙ before.1 (40 ∷ (bs ++ rest))
          ∙ closed_read c lists (suc before.0) (text ++ 40 ∷ []) rest
          ∙ ap (λ (t : List ℕ). enclosed_parts lists (suc before.0) t rest) (append_assoc text (40 ∷ []) bs),
    )

pub enclosed_read : (lists : Bool) (text after : List ℕ) → IsEnclosed text → parts_of lists true (text ++ after) ≡ option_map (λ parts. enclosed text ∷ parts) (parts_of lists false after)
unfolding parts_of enclosed_parts
enclosed_read lists text after (bs, c, is) =
    ap (λ (t : List ℕ). parts_of lists true (t ++ after)) is
    ∙ ap (enclosed_parts lists 0 (40 ∷ [])) (append_assoc bs (41 ∷ []) after)
    ∙ closed_read c lists 0 (40 ∷ []) (41 ∷ after)
    ∙ ap (λ (t : List ℕ). option_map (λ (parts : List Part). enclosed t ∷ parts) (parts_of lists false after)) (sym is)

string_left : (lists : Bool) (n : ℕ) (text run : List ℕ) → IsOpenString run → string_parts lists n text run ≡ None
unfolding string_parts taken_parts
string_left lists n text run (inl str) = ap (string_parts lists n text) (sym (append-nil run)) ∙ string_read str lists n text []
string_left lists n text run (inr (s, str, is)) = ap (string_parts lists n text) is ∙ string_read str lists n text (92 ∷ [])

pub open_string_read : (lists : Bool) (n : ℕ) (text run : List ℕ) → IsOpenString run → enclosed_parts lists n text (34 ∷ run) ≡ None
unfolding enclosed_parts
open_string_read lists n text run unclosed = string_left lists n (text ++ 34 ∷ []) run unclosed
