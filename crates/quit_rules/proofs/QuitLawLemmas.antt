-- What holds of every quit.
use Rattle.std.proofs.Common.{◌≡◌, ◌⊎◌, inl, inr, ℕ, zero, suc, ◌+◌, ◌<◌, Bool, true, false, ◌&&◌, ◌||◌, ◌==◌, List, [], ◌∷◌, ◌++◌, length, map, get_or, refl, sym, ap, ◌∙◌, arith, ⊎_elim, append-nil}
use Rattle.std.specs.Prelude.{if◌then◌else◌, filter, not, codes, Contains, All}
use Rattle.std.proofs.lemmas.Bool.{cases_Bool, cond-true, cond-false, false≢true}
use Rattle.std.proofs.lemmas.Slice.Zip.{firsts-zip}
use Rattle.mbox_scan.specs.Mailbox.{texts_of}
use Rattle.message_state.specs.declared.mark.State.{State}
use Rattle.message_state.specs.declared.mark.State.TheVariants.{New, Unread, Read, Deleted, Preserved, Saved, Mboxed}
use Rattle.message_state.specs.States.{place}
use Rattle.message_state.specs.Stamp.{is_stamped}
use Rattle.message_state.proofs.StampLawLemmas.{stamp-fixed}
use Rattle.mailx_vars.specs.Settings.{Settings, is_set}
use Rattle.folder_change.specs.declared.change.Change.{Change}
use Rattle.folder_change.specs.declared.change.Change.TheVariants.{Rewrite}
use Rattle.quit_rules.specs.declared.fate.Fate.{Fate}
use Rattle.quit_rules.specs.declared.fate.Fate.TheVariants.{Stays, GoesToMbox, Leaves}
use Rattle.quit_rules.specs.declared.fate.Rules.{Rules}
use Rattle.quit_rules.specs.declared.open.Open.{Open}
use Rattle.quit_rules.specs.Fates.{rules_of, fate_of, is_staying, is_boxed}
use Rattle.quit_rules.specs.Plans.{IsOpen, Message, messages_of, stamped_text, texts_where, staying, boxed, same_texts, mbox_changes, folder_changes, leaving_changes, is_unchanged, unchanged_len}
use Rattle.quit_rules.specs.Gathering.{gathered_changes}
use Rattle.quit_rules.specs.QuitLaws.{EachTextStands, NothingElseStands, EachStandsOnce, StaysAsItIs, UnchangedIsLeft}
use Rattle.quit_rules.proofs.PlanLemmas.{count-messages, same-unchanged, all-staying, all-boxed, same-true, true-same}

-- ---- each message has one of three fates
-- the state is given up
abbrev given : Rules → State → Bool
given rules s = (place s == place Deleted) || ((place s == place Saved) && (rules.system && not rules.keepsave))

abbrev one : Bool → ℕ
one b = if b then 1 else 0

-- just one of three
abbrev JustOne : Bool → Bool → Bool → Type 0
JustOne a b c = one a + one b + one c ≡ 1

read-fate : (system hold : Bool) → let f = if system then (if hold then Stays else GoesToMbox) else Stays in JustOne (is_staying f) (is_boxed f) false
read-fate true true = refl
read-fate true false = refl
read-fate false hold = refl

mboxed-fate : (system : Bool) → let f = if system then GoesToMbox else Stays in JustOne (is_staying f) (is_boxed f) false
mboxed-fate true = refl
mboxed-fate false = refl

saved-fate : (system keepsave : Bool) → let f = if system then (if keepsave then GoesToMbox else Leaves) else Stays in JustOne (is_staying f) (is_boxed f) (system && not keepsave)
saved-fate true true = refl
saved-fate true false = refl
saved-fate false keepsave = refl

one-fate : (rules : Rules) (s : State) → JustOne (is_staying (fate_of rules s)) (is_boxed (fate_of rules s)) (given rules s)
one-fate rules New = refl
one-fate rules Unread = refl
one-fate rules Preserved = refl
one-fate rules Read = read-fate rules.system rules.hold
one-fate rules Mboxed = mboxed-fate rules.system
one-fate rules Saved = saved-fate rules.system rules.keepsave
one-fate rules Deleted = refl

-- what isn't given up stays or goes to mbox
first-two : (a b c : Bool) → JustOne a b c → c ≡ false → (a ≡ true) ⊎ (b ≡ true)
first-two true b c h kept = inl refl
first-two false true c h kept = inr refl
first-two false false true h kept = absurd (false≢true (sym kept))
first-two false false false h kept = absurd (omega arith)

not-first : (a b c : Bool) → JustOne a b c → a ≡ true → c ≡ false
not-first true b false h is = refl
not-first true b true h is = absurd (more b h)
  where
    more : (x : Bool) → JustOne true x true → ⊥
    more true e = omega arith
    more false e = omega arith
not-first false b c h is = absurd (false≢true is)

not-second : (a b c : Bool) → JustOne a b c → b ≡ true → c ≡ false
not-second a true false h is = refl
not-second a true true h is = absurd (more a h)
  where
    more : (x : Bool) → JustOne x true true → ⊥
    more true e = omega arith
    more false e = omega arith
not-second a false c h is = absurd (false≢true is)

-- ---- a message and its text
cons-there : {X : Type 0} (x y : X) (xs : List X) → Contains xs y → Contains (x ∷ xs) y
cons-there x y xs at = (suc at.0, (let within = at.1 in omega arith), at.2)

texts-there : (passes : Fate → Bool) (rules : Rules) (ms : List Message) (m : Message) → (k : ℕ) → k < length ms → get_or ms k m ≡ m
    → passes (fate_of rules m.1.state) ≡ true → Contains (texts_where passes rules ms) (stamped_text m)
texts-there passes rules [] m k within is pass = absurd (omega arith)
texts-there passes rules (n ∷ ms) m zero within is pass =
    let first : passes (fate_of rules n.1.state) ≡ true = ap (λ (x : Message). passes (fate_of rules x.1.state)) is ∙ pass in
    let whole : texts_where passes rules (n ∷ ms) ≡ stamped_text n ∷ texts_where passes rules ms = ap (map stamped_text) (cond-true _ _ _ first) in
    rw whole (0, (omega arith), ap stamped_text is)
texts-there passes rules (n ∷ ms) m (suc k) within is pass = go (passes (fate_of rules n.1.state)) (texts-there passes rules ms m k (omega arith) is pass)
  where
    go : (b : Bool) → Contains (texts_where passes rules ms) (stamped_text m)
        → Contains (map stamped_text (if b then n ∷ filter (λ (x : Message). passes (fate_of rules x.1.state)) ms else filter (λ (x : Message). passes (fate_of rules x.1.state)) ms)) (stamped_text m)
    go true at = cons-there (stamped_text n) (stamped_text m) (texts_where passes rules ms) at
    go false at = at

pub each-stands : EachTextStands
each-stands folder vars m at kept =
    let rules = rules_of folder vars in
    ⊎_elim
    (λ stays. inl (texts-there is_staying rules (messages_of folder) m at.0 at.1 at.2 stays))
    (λ goes. inr (texts-there is_boxed rules (messages_of folder) m at.0 at.1 at.2 goes))
    (first-two _ _ _ (one-fate rules m.1.state) kept)

-- the message of a text that stands there
record IsFrom (passes : Fate → Bool) (rules : Rules) (ms : List Message) (text : List ℕ) : Type 0 where
  message : Message
  there : Contains ms message
  pass : passes (fate_of rules message.1.state) ≡ true
  stamped : text ≡ stamped_text message

from-later : (passes : Fate → Bool) (rules : Rules) (n : Message) (ms : List Message) (text : List ℕ) → IsFrom passes rules ms text → IsFrom passes rules (n ∷ ms) text
from-later passes rules n ms text from = record { message = from.message; there = cons-there n from.message ms from.there; pass = from.pass; stamped = from.stamped }

texts-from : (passes : Fate → Bool) (rules : Rules) (ms : List Message) (text : List ℕ) → (k : ℕ) → k < length (texts_where passes rules ms)
    → get_or (texts_where passes rules ms) k text ≡ text → IsFrom passes rules ms text
texts-from passes rules [] text k within is = absurd (omega arith)
texts-from passes rules (n ∷ ms) text k within is = go (passes (fate_of rules n.1.state)) refl (texts-from passes rules ms text) k within is
  where
    go : (b : Bool) → passes (fate_of rules n.1.state) ≡ b
        → ((i : ℕ) → i < length (texts_where passes rules ms) → get_or (texts_where passes rules ms) i text ≡ text → IsFrom passes rules ms text) → (i : ℕ)
        → i < length (map stamped_text (if b then n ∷ filter (λ (x : Message). passes (fate_of rules x.1.state)) ms else filter (λ (x : Message). passes (fate_of rules x.1.state)) ms))
        → get_or (map stamped_text (if b then n ∷ filter (λ (x : Message). passes (fate_of rules x.1.state)) ms else filter (λ (x : Message). passes (fate_of rules x.1.state)) ms)) i text ≡ text
        → IsFrom passes rules (n ∷ ms) text
    go true pass rest zero w e = record { message = n; there = (0, (omega arith), refl); pass = pass; stamped = sym e }
    go true pass rest (suc i) w e = from-later passes rules n ms text (rest i (omega arith) e)
    go false pass rest i w e = from-later passes rules n ms text (rest i w e)

pub nothing-else : NothingElseStands
nothing-else folder vars text stands =
    let rules = rules_of folder vars in
    ⊎_elim
    (λ at. let from = texts-from is_staying rules (messages_of folder) text at.0 at.1 at.2 in
    record { message = from.message; there = from.there; given_up = not-first _ _ _ (one-fate rules from.message.1.state) from.pass; stamped = from.stamped })
    (λ at. let from = texts-from is_boxed rules (messages_of folder) text at.0 at.1 at.2 in
    record { message = from.message; there = from.there; given_up = not-second _ _ _ (one-fate rules from.message.1.state) from.pass; stamped = from.stamped })
    stands

-- ---- how many there are
kept-length : {X : Type 0} (b : Bool) (x : X) (xs : List X) → length (if b then x ∷ xs else xs) ≡ one b + length xs
kept-length true x xs = omega arith
kept-length false x xs = omega arith

texts-length : (passes : Fate → Bool) (rules : Rules) (m : Message) (ms : List Message)
    → length (texts_where passes rules (m ∷ ms)) ≡ one (passes (fate_of rules m.1.state)) + length (texts_where passes rules ms)
texts-length passes rules m ms = go (passes (fate_of rules m.1.state))
  where
    go : (b : Bool) → length (map stamped_text
        (if b then m ∷ filter (λ (x : Message). passes (fate_of rules x.1.state)) ms else filter (λ (x : Message). passes (fate_of rules x.1.state)) ms)) ≡ one b + length (texts_where passes rules ms)
    go true = omega arith
    go false = omega arith

all-counted : (rules : Rules) (ms : List Message)
    → length (texts_where is_staying rules ms) + length (texts_where is_boxed rules ms) + length (filter (λ (m : Message). given rules m.1.state) ms) ≡ length ms
all-counted rules [] = refl
all-counted rules (m ∷ ms) =
    let a = texts-length is_staying rules m ms in
    let b = texts-length is_boxed rules m ms in
    let c : length (filter (λ (n : Message). given rules n.1.state) (m ∷ ms)) ≡ one (given rules m.1.state) + length (filter (λ (n : Message). given rules n.1.state) ms) =
    kept-length (given rules m.1.state) m (filter (λ (n : Message). given rules n.1.state) ms) in
    let just = one-fate rules m.1.state in
    let later = all-counted rules ms in
    omega arith

pub stands-once : EachStandsOnce
stands-once folder vars = all-counted (rules_of folder vars) (messages_of folder)

-- ---- the plan
-- where all stay as they are there is no change
pub leaving-none : (folder : Open) (vars : Settings) (mbox : List ℕ) → IsOpen folder → unchanged_len (rules_of folder vars) (messages_of folder) ≡ length (messages_of folder)
    → leaving_changes folder vars mbox ≡ []
leaving-none folder vars mbox same all =
    let rules = rules_of folder vars in
    let ms = messages_of folder in
    let stay : staying folder vars ≡ texts_of folder.folder = all-staying rules ms all ∙ firsts-zip (texts_of folder.folder) folder.marks same in
    (λ j. mbox_changes (all-boxed rules ms all j) vars mbox ++ folder_changes (staying folder vars) folder vars)
    ∙ cond-true _ _ _ (same-true (staying folder vars) (texts_of folder.folder) stay)

-- where one doesn't, the folder is rewritten
pub rewrite-some : (folder : Open) (vars : Settings) → IsOpen folder → (unchanged_len (rules_of folder vars) (messages_of folder) ≡ length (messages_of folder) → ⊥)
    → folder_changes (staying folder vars) folder vars ≡ Rewrite folder.name (staying folder vars) (is_set vars (codes "keep")) ∷ []
rewrite-some folder vars same some =
    ⊎_elim
    (λ t. absurd (some (same-unchanged (rules_of folder vars) (messages_of folder)
    (true-same (staying folder vars) (texts_of folder.folder) t ∙ sym (firsts-zip (texts_of folder.folder) folder.marks same)))))
    (λ f. cond-false _ _ _ f)
    (cases_Bool (same_texts (staying folder vars) (texts_of folder.folder)))

stays-unchanged : (folder : Open) (vars : Settings) (m : Message) → StaysAsItIs folder vars m → is_unchanged (rules_of folder vars) m ≡ true
stays-unchanged folder vars m left = ap (λ (b : Bool). b && is_stamped m.0 m.1) left.stays ∙ stamp-fixed m.0 m.1 left.stamped

all-unchanged : (folder : Open) (vars : Settings) (ms : List Message) → All (StaysAsItIs folder vars) ms → unchanged_len (rules_of folder vars) ms ≡ length ms
all-unchanged folder vars [] all = refl
all-unchanged folder vars (m ∷ ms) all =
    let step : unchanged_len (rules_of folder vars) (m ∷ ms) ≡ 1 + unchanged_len (rules_of folder vars) ms = cond-true _ _ _ (stays-unchanged folder vars m (all 0 m (omega arith))) in
    let rest = all-unchanged folder vars ms (λ k d within. all (suc k) d (omega arith)) in
    omega arith

pub unchanged-left : UnchangedIsLeft
unchanged-left folder vars mbox gathered same all =
    ap (λ (l : List Change). gathered_changes gathered ++ l) (leaving-none folder vars mbox same (all-unchanged folder vars (messages_of folder) all))
    ∙ append-nil (gathered_changes gathered)

-- the changes where one message doesn't stay as it is
pub leaving-some : (folder : Open) (vars : Settings) (mbox : List ℕ) (rules : Rules) (unchanged count : ℕ) (stay go : List (List ℕ)) (first : List Change) (name : List ℕ) (keep : Bool)
    → IsOpen folder → rules ≡ rules_of folder vars → unchanged ≡ unchanged_len rules (messages_of folder) → count ≡ length (texts_of folder.folder) → (unchanged ≡ count → ⊥)
    → stay ≡ texts_where is_staying rules (messages_of folder) → go ≡ texts_where is_boxed rules (messages_of folder)
    → first ≡ mbox_changes go vars mbox → name ≡ folder.name → keep ≡ is_set vars (codes "keep")
    → first ++ Rewrite name stay keep ∷ [] ≡ leaving_changes folder vars mbox
leaving-some folder vars mbox rules unchanged count stay go first name keep same are walked counted some stays goes changes named kept =
    let rest : stay ≡ staying folder vars = stays ∙ ap (λ (r : Rules). texts_where is_staying r (messages_of folder)) are in
    let away : go ≡ boxed folder vars = goes ∙ ap (λ (r : Rules). texts_where is_boxed r (messages_of folder)) are in
    let front : unchanged ≡ unchanged_len (rules_of folder vars) (messages_of folder) = walked ∙ ap (λ (r : Rules). unchanged_len r (messages_of folder)) are in
    let all : length (messages_of folder) ≡ count = count-messages (texts_of folder.folder) folder.marks same ∙ sym counted in
    let differs : unchanged_len (rules_of folder vars) (messages_of folder) ≡ length (messages_of folder) → ⊥ = λ whole. some (front ∙ whole ∙ all) in
    (λ j. (changes ∙ ap (λ (l : List (List ℕ)). mbox_changes l vars mbox) away) j ++ Rewrite (named j) (rest j) (kept j) ∷ [])
    ∙ ap (λ (l : List Change). mbox_changes (boxed folder vars) vars mbox ++ l) (sym (rewrite-some folder vars same differs))
