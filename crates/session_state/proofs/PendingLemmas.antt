-- The next line of frames, by the innermost of them.
use Rattle.std.proofs.Common.{◌≡◌, ◌+◌, ◌<◌, ◌≤◌, ◌==◌, ℕ, suc, List, [], ◌∷◌, ◌++◌, length, drop, refl, sym, ◌∙◌, ap, subst, arith, ⊎_elim}
use Rattle.std.proofs.lemmas.Bool.{cases_Bool}
use Rattle.std.specs.Prelude.{min, IfOk, OnOk}
use Rattle.std.proofs.lemmas.List.{drop_at, drop_min, drop-drop}
use Rattle.std.specs.declared.result.Result.{Result}
use Rattle.std.specs.declared.result.Result.TheVariants.{Ok, Err}
use Rattle.mail_text.specs.declared.memory.Memory.{Memory}
use Rattle.std.specs.declared.option.Option.{Option}
use Rattle.std.specs.declared.option.Option.TheVariants.{Some, None}
use Rattle.mail_text.specs.Lines.{lines_of, in_front}
use Rattle.mail_text.proofs.LineLemmas.{lines_of-nil, lines_of-feed, lines_of-byte, lines_of-some}
use Rattle.session_state.specs.declared.frames.WaitingLine.{WaitingLine}
use Rattle.session_state.specs.declared.frames.Taken.{Taken}
use Rattle.session_state.specs.Waits.{Pending}
use Rattle.session_state.specs.Pending.{taken, or_own, own_line, line_from, lines_left, capped, open_before, closed, IsTaken, IsHanded}

-- an innermost frame without a line counts for nothing
pub taken-closed : (fs : List Pending) (f : Pending) → f.lines ≡ [] → taken (fs ++ f ∷ []) ≡ taken fs
taken-closed [] f none = ap (own_line f) none
taken-closed (g ∷ fs) f none = ap (or_own g) (taken-closed fs f none)

-- an innermost frame with a line hands it out
pub taken-last : (fs : List Pending) (f g : Pending) (line : List ℕ) → g ≡ record f { lines = g.lines } → f.lines ≡ line ∷ g.lines
    → taken (fs ++ f ∷ []) ≡ Some (line_from g.origin line, fs ++ g ∷ [])
taken-last [] f g line same is =
    ap (own_line f) is ∙ ap (λ (h : Pending). Some (line_from h.origin line, h ∷ [])) (sym same)
taken-last (h ∷ fs) f g line same is = ap (or_own h) (taken-last fs f g line same is)

drop-more : (n b : ℕ) (bs : List ℕ) → drop (suc n + 1) (b ∷ bs) ≡ drop (n + 1) bs
drop-more n b bs = ap (λ (k : ℕ). drop k (b ∷ bs)) (let same : suc n + 1 ≡ suc (n + 1) = omega arith in same)

-- the parts of a list with a first element
same-parts : (l k : List ℕ) (ls ks : List (List ℕ)) → l ∷ ls ≡ k ∷ ks → (l ≡ k) × (ls ≡ ks)
same-parts l k ls ks is = (cc is, cc is)

-- if the first line is known, so is what is left after it
found-line : (bs l k : List ℕ) (ls ks : List (List ℕ)) → lines_of bs ≡ l ∷ ls → lines_of bs ≡ k ∷ ks → lines_of (drop (length k + 1) bs) ≡ ks
    → lines_of (drop (length l + 1) bs) ≡ ls
found-line bs l k ls ks is known after =
    let p = same-parts l k ls ks (sym is ∙ known) in
    ap (λ (m : List ℕ). lines_of (drop (length m + 1) bs)) p.0 ∙ after ∙ sym p.1

-- what is left after the first line
pub after-line : (bs l : List ℕ) (ls : List (List ℕ)) → lines_of bs ≡ l ∷ ls → lines_of (drop (length l + 1) bs) ≡ ls
after-line [] l ls is = absurd (cc (lines_of-nil, is))
after-line (b ∷ []) l ls is =
    ⊎_elim
    (λ feed. found-line (b ∷ []) l [] ls (lines_of []) is (lines_of-feed b [] feed) refl)
    (λ other. found-line (b ∷ []) l (b ∷ []) ls [] is (lines_of-byte b [] other ∙ ap (in_front b) lines_of-nil) lines_of-nil)
    (cases_Bool (b == 10))
after-line (b ∷ c ∷ bs) l ls is =
    let some = lines_of-some c bs in
    ⊎_elim
    (λ feed. found-line (b ∷ c ∷ bs) l [] ls (lines_of (c ∷ bs)) is (lines_of-feed b (c ∷ bs) feed) refl)
    (λ other. found-line (b ∷ c ∷ bs) l (b ∷ some.first) ls some.later is (lines_of-byte b (c ∷ bs) other ∙ ap (in_front b) some.is)
    (ap lines_of (drop-more (length some.first) b (c ∷ bs)) ∙ after-line (c ∷ bs) some.first some.later some.is))
    (cases_Bool (b == 10))

-- the frames that a line leaves
abbrev frames_of : Option (WaitingLine × List Pending) → List Pending
frames_of (Some p) = p.1
frames_of None = []

own-fewer : (f : Pending) (gs : List Pending) (line : WaitingLine) (n : ℕ) (ls : List (List ℕ)) → own_line f ls ≡ Some (line, gs) → lines_left gs < length ls + n
own-fewer f gs line n [] is = absurd (cc is)
own-fewer f gs line n (l ∷ ls) is =
    let same : gs ≡ record f { lines = ls } ∷ [] = sym (ap frames_of is) in
    let left : lines_left gs ≡ length ls + 0 = ap lines_left same in
    omega arith

or-fewer : (f : Pending) (inner gs : List Pending) (line : WaitingLine) (t : Option (WaitingLine × List Pending))
    → ((p : WaitingLine × List Pending) → t ≡ Some p → lines_left p.1 < lines_left inner) → or_own f t ≡ Some (line, gs) → lines_left gs < lines_left (f ∷ inner)
or-fewer f inner gs line None less is = own-fewer f gs line (lines_left inner) f.lines is
or-fewer f inner gs line (Some p) less is =
    let same : gs ≡ f ∷ p.1 = sym (ap frames_of is) in
    let left : lines_left gs ≡ length f.lines + lines_left p.1 = ap lines_left same in
    let fewer : lines_left p.1 < lines_left inner = less p refl in
    omega arith

-- a line that is taken waits no more
pub fewer-left : (fs gs : List Pending) (line : WaitingLine) → taken fs ≡ Some (line, gs) → lines_left gs < lines_left fs
fewer-left [] gs line is = absurd (cc is)
fewer-left (f ∷ inner) gs line is = or-fewer f inner gs line (taken inner) (λ p was. fewer-left inner p.1 p.0 was) is

pub less-then : (a b c : ℕ) → a ≤ b → b < c → a < c
less-then a b c x y = omega arith

pub nothing-taken : (fs gs : List Pending) (line : WaitingLine) → fs ≡ [] → taken fs ≡ Some (line, gs) → ⊥
nothing-taken fs gs line none is = absurd (cc (ap taken none, is))

pub not-none : (fs : List Pending) (f : Pending) → fs ++ f ∷ [] ≡ [] → ⊥
not-none [] f is = absurd (cc is)
not-none (g ∷ fs) f is = absurd (cc is)

-- a frame that handed out a line is put back
pub put-back : (r : Result Taken Memory) (old before now : List Pending) (f g : Pending) (text : List ℕ) → IfOk r (λ t. t.line ≡ Some (line_from g.origin text))
    → OnOk r (now ≡ before ++ g ∷ []) → taken (before ++ f ∷ []) ≡ taken old → IsHanded (Some text) f g → IfOk r (λ t. IsTaken t.line old now)
put-back (Err e) old before now f g text line back same handed = tt
put-back (Ok given) old before now f g text line back same handed =
    let T : Option WaitingLine → Type 0 = λ l. IsTaken l old now in
    subst T (sym line) (sym same ∙ taken-last before f g text handed.0 handed.1 ∙ ap (λ (fs : List Pending). Some (line_from g.origin text, fs)) (sym back))

one-longer : (fs : List Pending) (f g : Pending) → length (fs ++ f ∷ []) ≡ length (fs ++ g ∷ [])
one-longer [] f g = refl
one-longer (h ∷ fs) f g = ap suc (one-longer fs f g)

-- what was open before the frames that are closed then
pub open-then : (r : Result Taken Memory) (old before now shut : List Pending) (f g : Pending) (nested : Option ℕ) → IfOk r (λ t. t.nested ≡ nested)
    → OnOk r (now ≡ before ++ g ∷ []) → old ≡ (before ++ f ∷ []) ++ shut → nested ≡ open_before shut → IfOk r (λ t. t.nested ≡ open_before (closed old now))
open-then (Err e) old before now shut f g nested said back is was = tt
open-then (Ok given) old before now shut f g nested said back is was =
    let long : length (before ++ f ∷ []) ≡ length now = one-longer before f g ∙ ap (λ (fs : List Pending). length fs) (sym back) in
    let left : closed old now ≡ shut = ap (drop (length now)) is ∙ drop_at (before ++ f ∷ []) shut (length now) long in
    said ∙ was ∙ ap open_before (sym left)

-- the line at the front of what is left of a text, and what is left after it
pub handed-line : (text : List ℕ) (used at : ℕ) (line : List ℕ) (rest : List (List ℕ)) → at ≡ min used (length text) → lines_of (drop at text) ≡ line ∷ rest
    → lines_of (drop used text) ≡ line ∷ lines_of (drop (at + length line + 1) text)
handed-line text used at line rest is front =
    let here : drop at text ≡ drop used text = ap (λ (k : ℕ). drop k text) is ∙ drop_min used text in
    let more : drop (length line + 1) (drop at text) ≡ drop (at + length line + 1) text =
    drop-drop (length line + 1) at text ∙ ap (λ (k : ℕ). drop k text) (let same : at + (length line + 1) ≡ at + length line + 1 = omega arith in same) in
    ap lines_of (sym here) ∙ front ∙ ap (λ (ls : List (List ℕ)). line ∷ ls) (sym (after-line (drop at text) line rest front) ∙ ap lines_of more)

-- no line is taken from frames by telling them how many conditions are open
pub lines-capped : (depth : ℕ) (fs : List Pending) → lines_left (capped depth fs) ≡ lines_left fs
lines-capped depth [] = refl
lines-capped depth (f ∷ fs) = ap (λ (n : ℕ). length f.lines + n) (lines-capped depth fs)
