-- Messages by what becomes of them.
use Rattle.std.proofs.Common.{◌≡◌, ℕ, suc, ◌+◌, ◌≤◌, ◌<◌, Bool, true, false, ◌&&◌, List, [], ◌∷◌, ◌++◌, length, length-append, map, take, drop, get_or, slice_get, refl, sym, ap, ◌∙◌, subst, arith, ⊎_elim}
use Rattle.std.specs.Prelude.{if◌then◌else◌, filter}
use Rattle.std.specs.declared.option.Option.TheVariants.{Some}
use Rattle.std.specs.List.{zip, take-map}
use Rattle.std.proofs.lemmas.Bool.{cases_Bool, cond-true, cond-false, and_parts, false≢true}
use Rattle.std.proofs.lemmas.List.{length-map, map-append, take_more, take_all}
use Rattle.std.proofs.lemmas.List.Elements.{filter-append}
use Rattle.std.proofs.lemmas.List.Sums.{prefix_len-drop_yes, prefix_len-drop_no, prefix_len-drop_all}
use Rattle.std.proofs.lemmas.Option.{slice_get_within, get_or_from_slice_get}
use Rattle.std.proofs.lemmas.Slice.Eq.{bytes_eq-Decides, slice_eq-Decides}
use Rattle.std.proofs.lemmas.Slice.Zip.{get_or-zip, firsts-zip, length-zip}
use Rattle.message_state.specs.declared.mark.Mark.{Mark}
use Rattle.message_state.specs.Stamp.{is_stamped}
use Rattle.message_state.proofs.StampLawLemmas.{stamp-same, stamp-fixed}
use Rattle.quit_rules.specs.declared.fate.Fate.{Fate}
use Rattle.quit_rules.specs.declared.fate.Fate.TheVariants.{Stays, GoesToMbox, Leaves}
use Rattle.quit_rules.specs.declared.fate.Rules.{Rules}
use Rattle.quit_rules.specs.Fates.{fate_of, is_staying, is_boxed}
use Rattle.quit_rules.specs.Plans.{Message, stamped_text, texts_where, same_texts, is_unchanged, unchanged_len}

-- ---- a message more
-- the texts of one message
abbrev pub text_where : (Fate → Bool) → Rules → Message → List (List ℕ)
text_where passes rules m = if passes (fate_of rules m.1.state) then stamped_text m ∷ [] else []

one-text : (b : Bool) (m : Message) → map stamped_text (if b then m ∷ [] else []) ≡ (if b then stamped_text m ∷ [] else [])
one-text true m = refl
one-text false m = refl

pub texts-append : (passes : Fate → Bool) (rules : Rules) (ms : List Message) (m : Message) → texts_where passes rules (ms ++ m ∷ []) ≡ texts_where passes rules ms ++ text_where passes rules m
texts-append passes rules ms m =
    let test : Message → Bool = λ (n : Message). passes (fate_of rules n.1.state) in
    ap (map stamped_text) (filter-append test ms (m ∷ []))
    ∙ map-append stamped_text (filter test ms) (filter test (m ∷ []))
    ∙ ap (λ (l : List (List ℕ)). texts_where passes rules ms ++ l) (one-text (test m) m)

-- the message at a place
pub message-at : (texts : List (List ℕ)) (marks : List Mark) (k : ℕ) (t : List ℕ) (m : Mark) → slice_get texts k ≡ Some t → k < length marks
    → get_or marks k m ≡ m → get_or (zip texts marks) k (t, m) ≡ (t, m)
message-at texts marks k t m text within mark =
    get_or-zip texts marks k (t, m) (slice_get_within texts k t text) within
    ∙ ap (λ (x : List ℕ). (x, get_or marks k m)) (get_or_from_slice_get texts k t t text) ∙ ap (λ (x : Mark). (t, x)) mark

pub texts-more : (passes : Fate → Bool) (rules : Rules) (texts : List (List ℕ)) (marks : List Mark) (k : ℕ) (t : List ℕ) (m : Mark)
    → slice_get texts k ≡ Some t → k < length marks → get_or marks k m ≡ m → k < length (zip texts marks)
    → texts_where passes rules (take (k + 1) (zip texts marks)) ≡ texts_where passes rules (take k (zip texts marks)) ++ text_where passes rules (t, m)
texts-more passes rules texts marks k t m text within mark both =
    ap (texts_where passes rules) (take_more (zip texts marks) k (t, m) both ∙ ap (λ (x : Message). take k (zip texts marks) ++ x ∷ []) (message-at texts marks k t m text within mark))
    ∙ texts-append passes rules (take k (zip texts marks)) (t, m)

pub count-messages : (texts : List (List ℕ)) (marks : List Mark) → length marks ≡ length texts → length (zip texts marks) ≡ length texts
count-messages texts marks same = let e = length-zip texts marks in omega arith

-- ---- the front that stays as it is
-- a message that is unchanged is one text that stays, and none that goes to mbox
unchanged-stays : (rules : Rules) (m : Message) → is_unchanged rules m ≡ true → is_staying (fate_of rules m.1.state) ≡ true
unchanged-stays rules m is = (and_parts _ _ is).0

unchanged-text : (rules : Rules) (m : Message) → is_unchanged rules m ≡ true → stamped_text m ≡ m.0
unchanged-text rules m is = stamp-same m.0 m.1 (and_parts _ _ is).1

stays-not-boxed : (f : Fate) → is_staying f ≡ true → is_boxed f ≡ false
stays-not-boxed Stays is = refl
stays-not-boxed GoesToMbox is = absurd (false≢true is)
stays-not-boxed Leaves is = absurd (false≢true is)

-- the texts of messages, as they are
abbrev pub bare_texts : List Message → List (List ℕ)
bare_texts ms = map (λ m. m.0) ms

one-more : (n : ℕ) → 1 + n ≡ suc n
one-more n = omega arith

pub front-staying : (rules : Rules) (ms : List Message) → texts_where is_staying rules (take (unchanged_len rules ms) ms) ≡ bare_texts (take (unchanged_len rules ms) ms)
front-staying rules [] = refl
front-staying rules (m ∷ ms) = go (is_unchanged rules m) refl (front-staying rules ms)
  where
    go : (b : Bool) → is_unchanged rules m ≡ b
        → texts_where is_staying rules (take (unchanged_len rules ms) ms) ≡ bare_texts (take (unchanged_len rules ms) ms)
        → texts_where is_staying rules (take (if b then 1 + unchanged_len rules ms else 0) (m ∷ ms)) ≡ bare_texts (take (if b then 1 + unchanged_len rules ms else 0) (m ∷ ms))
    go true is rest =
        ap (λ (n : ℕ). texts_where is_staying rules (take n (m ∷ ms))) (one-more (unchanged_len rules ms))
        ∙ ap (map stamped_text) (cond-true _ _ _ (unchanged-stays rules m is))
        ∙ ap (λ (t : List ℕ). t ∷ texts_where is_staying rules (take (unchanged_len rules ms) ms)) (unchanged-text rules m is)
        ∙ ap (λ (l : List (List ℕ)). m.0 ∷ l) rest
        ∙ ap (λ (n : ℕ). bare_texts (take n (m ∷ ms))) (sym (one-more (unchanged_len rules ms)))
    go false is rest = refl

pub front-boxed : (rules : Rules) (ms : List Message) → texts_where is_boxed rules (take (unchanged_len rules ms) ms) ≡ []
front-boxed rules [] = refl
front-boxed rules (m ∷ ms) = go (is_unchanged rules m) refl (front-boxed rules ms)
  where
    go : (b : Bool) → is_unchanged rules m ≡ b → texts_where is_boxed rules (take (unchanged_len rules ms) ms) ≡ []
        → texts_where is_boxed rules (take (if b then 1 + unchanged_len rules ms else 0) (m ∷ ms)) ≡ []
    go true is rest =
        ap (λ (n : ℕ). texts_where is_boxed rules (take n (m ∷ ms))) (one-more (unchanged_len rules ms))
        ∙ ap (map stamped_text) (cond-false _ _ _ (stays-not-boxed (fate_of rules m.1.state) (unchanged-stays rules m is)))
        ∙ rest
    go false is rest = refl

-- ---- where all stay as they are, and only there, the texts that stay are those of the folder
texts-few : (passes : Fate → Bool) (rules : Rules) (ms : List Message) → length (texts_where passes rules ms) ≤ length ms
texts-few passes rules [] = omega arith
texts-few passes rules (m ∷ ms) = go (passes (fate_of rules m.1.state)) (texts-few passes rules ms)
  where
    go : (b : Bool) → length (texts_where passes rules ms) ≤ length ms
        → length (map stamped_text (if b then m ∷ filter (λ (n : Message). passes (fate_of rules n.1.state)) ms else filter (λ (n : Message). passes (fate_of rules n.1.state)) ms)) ≤ length (m ∷ ms)
    go true few = omega arith
    go false few = omega arith

pub same-unchanged : (rules : Rules) (ms : List Message) → texts_where is_staying rules ms ≡ bare_texts ms → unchanged_len rules ms ≡ length ms
same-unchanged rules [] same = refl
same-unchanged rules (m ∷ ms) same = ⊎_elim
    (λ stays.
    let whole : stamped_text m ∷ texts_where is_staying rules ms ≡ m.0 ∷ bare_texts ms = sym (ap (map stamped_text) (cond-true _ _ _ stays)) ∙ same in
    let first : stamped_text m ≡ m.0 = cc whole in
    let later : texts_where is_staying rules ms ≡ bare_texts ms = cc whole in
    let is : is_unchanged rules m ≡ true = ap (λ (b : Bool). b && is_stamped m.0 m.1) stays ∙ stamp-fixed m.0 m.1 first in
    let step : unchanged_len rules (m ∷ ms) ≡ 1 + unchanged_len rules ms = cond-true _ _ _ is in
    let rest = same-unchanged rules ms later in
    omega arith)
    (λ goes.
    let fewer : texts_where is_staying rules ms ≡ bare_texts (m ∷ ms) = sym (ap (map stamped_text) (cond-false _ _ _ goes)) ∙ same in
    let counted : length (texts_where is_staying rules ms) ≡ length (bare_texts (m ∷ ms)) = ap length fewer in
    let few = texts-few is_staying rules ms in
    let all = length-map (m ∷ ms) (λ (n : Message). n.0) in
    absurd (omega arith))
    (cases_Bool (is_staying (fate_of rules m.1.state)))

pub all-staying : (rules : Rules) (ms : List Message) → unchanged_len rules ms ≡ length ms → texts_where is_staying rules ms ≡ bare_texts ms
all-staying rules ms all =
    subst (λ (l : List Message). texts_where is_staying rules l ≡ bare_texts l) (ap (λ (n : ℕ). take n ms) all ∙ take_all (length ms) ms (omega arith)) (front-staying rules ms)

pub all-boxed : (rules : Rules) (ms : List Message) → unchanged_len rules ms ≡ length ms → texts_where is_boxed rules ms ≡ []
all-boxed rules ms all =
    subst (λ (l : List Message). texts_where is_boxed rules l ≡ []) (ap (λ (n : ℕ). take n ms) all ∙ take_all (length ms) ms (omega arith)) (front-boxed rules ms)

-- ---- equal lists of texts
pub same-true : (a b : List (List ℕ)) → a ≡ b → same_texts a b ≡ true
same-true a b is = (slice_eq-Decides bytes_eq-Decides a b (same_texts a b) refl).1 is

pub true-same : (a b : List (List ℕ)) → same_texts a b ≡ true → a ≡ b
true-same a b is = (slice_eq-Decides bytes_eq-Decides a b (same_texts a b) refl).0 is

-- ---- how many marks pass
abbrev pub count_where : (Fate → Bool) → Rules → List Mark → ℕ
count_where passes rules marks = length (filter (λ (m : Mark). passes (fate_of rules m.state)) marks)

abbrev pub one_if : Bool → ℕ
one_if b = if b then 1 else 0

length-one : {X : Type 0} (b : Bool) (x : X) → length (if b then x ∷ [] else []) ≡ one_if b
length-one true x = refl
length-one false x = refl

pub count-more : (passes : Fate → Bool) (rules : Rules) (marks : List Mark) (i : ℕ) (d : Mark) → i < length marks
    → count_where passes rules (take (i + 1) marks) ≡ count_where passes rules (take i marks) + one_if (passes (fate_of rules (get_or marks i d).state))
count-more passes rules marks i d within =
    let test : Mark → Bool = λ (m : Mark). passes (fate_of rules m.state) in
    ap (count_where passes rules) (take_more marks i d within)
    ∙ ap length (filter-append test (take i marks) (get_or marks i d ∷ []))
    ∙ length-append (filter test (take i marks)) (filter test (get_or marks i d ∷ []))
    ∙ ap (λ (n : ℕ). count_where passes rules (take i marks) + n) (length-one (test (get_or marks i d)) (get_or marks i d))

pub count-texts : (passes : Fate → Bool) (rules : Rules) (texts : List (List ℕ)) (marks : List Mark) → length marks ≡ length texts
    → count_where passes rules marks ≡ length (texts_where passes rules (zip texts marks))
count-texts passes rules [] [] same = refl
count-texts passes rules [] (m ∷ marks) same = absurd (omega arith)
count-texts passes rules (t ∷ texts) [] same = absurd (omega arith)
count-texts passes rules (t ∷ texts) (m ∷ marks) same = go (passes (fate_of rules m.state)) (count-texts passes rules texts marks (omega arith))
  where
    go : (b : Bool) → count_where passes rules marks ≡ length (texts_where passes rules (zip texts marks))
        → length (if b then m ∷ filter (λ (n : Mark). passes (fate_of rules n.state)) marks else filter (λ (n : Mark). passes (fate_of rules n.state)) marks)
        ≡ length (map stamped_text (if b then (t, m)
        ∷ filter (λ (n : Message). passes (fate_of rules n.1.state)) (zip texts marks) else filter (λ (n : Message). passes (fate_of rules n.1.state)) (zip texts marks)))
    go true rest = ap suc rest
    go false rest = rest

-- ---- the walk along the front
messages-place : (texts : List (List ℕ)) (marks : List Mark) (k : ℕ) (t : List ℕ) → slice_get texts k ≡ Some t → length marks ≡ length texts → k < length (zip texts marks)
messages-place texts marks k t text same = let within = slice_get_within texts k t text in let all = count-messages texts marks same in omega arith

pub unchanged-go : (rules : Rules) (texts : List (List ℕ)) (marks : List Mark) (k : ℕ) (t : List ℕ) (m : Mark)
    → slice_get texts k ≡ Some t → k < length marks → get_or marks k m ≡ m → length marks ≡ length texts
    → unchanged_len rules (zip texts marks) ≡ k + unchanged_len rules (drop k (zip texts marks)) → is_unchanged rules (t, m) ≡ true
    → unchanged_len rules (zip texts marks) ≡ k + 1 + unchanged_len rules (drop (k + 1) (zip texts marks))
unchanged-go rules texts marks k t m text within mark same walked is =
    let there = messages-place texts marks k t text same in
    let pass : is_unchanged rules (get_or (zip texts marks) k (t, m)) ≡ true = ap (is_unchanged rules) (message-at texts marks k t m text within mark) ∙ is in
    let more = prefix_len-drop_yes (is_unchanged rules) (zip texts marks) k (t, m) there pass in
    omega arith

pub unchanged-stop : (rules : Rules) (texts : List (List ℕ)) (marks : List Mark) (k : ℕ) (t : List ℕ) (m : Mark)
    → slice_get texts k ≡ Some t → k < length marks → get_or marks k m ≡ m → length marks ≡ length texts
    → unchanged_len rules (zip texts marks) ≡ k + unchanged_len rules (drop k (zip texts marks)) → is_unchanged rules (t, m) ≡ false
    → k ≡ unchanged_len rules (zip texts marks)
unchanged-stop rules texts marks k t m text within mark same walked is =
    let there = messages-place texts marks k t text same in
    let pass : is_unchanged rules (get_or (zip texts marks) k (t, m)) ≡ false = ap (is_unchanged rules) (message-at texts marks k t m text within mark) ∙ is in
    let none = prefix_len-drop_no (is_unchanged rules) (zip texts marks) k (t, m) there pass in
    omega arith

pub unchanged-end : (rules : Rules) (texts : List (List ℕ)) (marks : List Mark) (k : ℕ) → length marks ≡ length texts → length texts ≤ k
    → unchanged_len rules (zip texts marks) ≡ k + unchanged_len rules (drop k (zip texts marks)) → k ≡ unchanged_len rules (zip texts marks)
unchanged-end rules texts marks k same past walked =
    let all = count-messages texts marks same in
    let none = prefix_len-drop_all (is_unchanged rules) (zip texts marks) k (omega arith) in
    omega arith

-- the whole lists
pub texts-whole : (passes : Fate → Bool) (rules : Rules) (texts : List (List ℕ)) (marks : List Mark) (k : ℕ) → length marks ≡ length texts → length texts ≤ k
    → texts_where passes rules (take k (zip texts marks)) ≡ texts_where passes rules (zip texts marks)
texts-whole passes rules texts marks k same past =
    let all = count-messages texts marks same in
    ap (texts_where passes rules) (take_all k (zip texts marks) (omega arith))

-- the front's texts, as the folder has them
pub front-texts : (rules : Rules) (texts : List (List ℕ)) (marks : List Mark) (k : ℕ) → length marks ≡ length texts → k ≡ unchanged_len rules (zip texts marks)
    → take k texts ≡ texts_where is_staying rules (take k (zip texts marks))
front-texts rules texts marks k same is =
    ap (take k) (sym (firsts-zip texts marks same)) ∙ take-map (λ (m : Message). m.0) k (zip texts marks)
    ∙ ap (λ (n : ℕ). bare_texts (take n (zip texts marks))) is ∙ sym (front-staying rules (zip texts marks))
    ∙ ap (λ (n : ℕ). texts_where is_staying rules (take n (zip texts marks))) (sym is)

pub front-none : (rules : Rules) (ms : List Message) (k : ℕ) → k ≡ unchanged_len rules ms → [] ≡ texts_where is_boxed rules (take k ms)
front-none rules ms k is = sym (ap (λ (n : ℕ). texts_where is_boxed rules (take n ms)) is ∙ front-boxed rules ms)
