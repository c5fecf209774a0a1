-- The lists of files before and after a change.
use Rattle.std.proofs.Common.{◌≡◌, ℕ, suc, ◌+◌, ◌-◌, Bool, true, false, not, ◌&&◌, ◌||◌, ◌==◌, List, [], ◌∷◌, ◌++◌, Option, Some, Result, length, take, drop, refl, sym, ap, subst, ◌∙◌, arith, ⊎_elim, append_assoc, take-append-drop, MatchResult}
use Rattle.std.specs.Prelude.{nat_eq}
use Rattle.std.specs.List.{All, starts_with, ends_with, common_prefix_len}
use Rattle.std.specs.Str.{bytes_eq}
use Rattle.std.proofs.lemmas.Bool.{cases_Bool, cond-true, cond-false, and_parts, and_cases, or_cases, or_left, eqb-true, eqb-false, false≢true}
use Rattle.std.proofs.lemmas.List.{nil_from_length, append-nil, drop_at}
use Rattle.std.proofs.lemmas.List.Elements.{All-append, All-drop}
use Rattle.std.proofs.lemmas.Slice.Eq.{bytes_eq-Decides, slice_eq-Decides}
use Rattle.mbox_scan.specs.Mailbox.{two_feeds, is_mailbox, list_of, texts_of, join, written, IsProper}
use Rattle.mbox_scan.proofs.TextLemmas.{texts-feed, texts-two, texts-empty}
use Rattle.mbox_scan.proofs.MailboxLemmas.{list_of-mailbox, list_of-some, list_of-proper, list_of-join, join-mailbox, texts_of-join}
use Rattle.mbox_scan.proofs.JoinLemmas.{join-append, is_mailbox-more, texts-written, is_mailbox-join, texts_of-join_front}
use Rattle.folder_change.specs.declared.change.Change.TheVariants.{Rewrite}
use Rattle.folder_change.specs.Outcomes.{bytes_of, missing_feeds, file_of, rewritten, rewrite_of, outcome_of}
use Rattle.folder_change.proofs.OutcomeLemmas.{rewritten-same, rewritten-other}
use Rattle.folder_change.specs.ListLaws.{list_of_file, list_after, AddAppends, FrontPrepends, RewriteKeepsTheRest, RewriteByTheBase, IsFirstDifference}

-- ---- bytes before which a mailbox follows
-- p is bytes with the same texts, and two line feeds
pub record IsReady (b p : List ℕ) : Type 0 where
  pub front : List ℕ
  pub is : p ≡ written front
  pub texts : texts_of front ≡ texts_of b

ends_in_two : (b : List ℕ) → ends_with nat_eq b two_feeds ≡ true → b ≡ written (take (length b - 2) b)
ends_in_two b h =
    sym (take-append-drop (length b - 2) b) ∙ ap (λ (l : List ℕ). take (length b - 2) b ++ l) (sym ((bytes_eq-Decides two_feeds (drop (length b - 2) b)).0 h))

ends_in_one : (b : List ℕ) → ends_with nat_eq b (10 ∷ []) ≡ true → b ++ 10 ∷ [] ≡ written (take (length b - 1) b)
ends_in_one b h =
    let e = (bytes_eq-Decides (10 ∷ []) (drop (length b - 1) b)).0 h in
    ap (λ (l : List ℕ). l ++ 10 ∷ []) (sym (take-append-drop (length b - 1) b) ∙ ap (λ (l : List ℕ). take (length b - 1) b ++ l) (sym e))
    ∙ append_assoc (take (length b - 1) b) (10 ∷ []) (10 ∷ [])

missing-none : (b : List ℕ) → (length b == 0 || ends_with nat_eq b two_feeds) ≡ true → missing_feeds b ≡ []
unfolding missing_feeds
missing-none b h = cond-true _ _ _ h

missing-one : (b : List ℕ) → (length b == 0 || ends_with nat_eq b two_feeds) ≡ false → ends_with nat_eq b (10 ∷ []) ≡ true → missing_feeds b ≡ 10 ∷ []
unfolding missing_feeds
missing-one b f h = cond-false _ _ _ f ∙ cond-true _ _ _ h

missing-two : (b : List ℕ) → (length b == 0 || ends_with nat_eq b two_feeds) ≡ false → ends_with nat_eq b (10 ∷ []) ≡ false → missing_feeds b ≡ two_feeds
unfolding missing_feeds
missing-two b f h = cond-false _ _ _ f ∙ cond-false _ _ _ h

ready : (b : List ℕ) → (length b == 0) ≡ false → IsReady b (b ++ missing_feeds b)
ready b some = ⊎_elim
    (λ t.
    let two : ends_with nat_eq b two_feeds ≡ true = ⊎_elim (λ none. absurd (false≢true (sym some ∙ none))) (λ e. e) (or_cases _ _ t) in
    let e = ends_in_two b two in
    record {
      front = take (length b - 2) b;
      is = ap (λ (l : List ℕ). b ++ l) (missing-none b t) ∙ append-nil b ∙ e;
      texts = sym (ap texts_of e ∙ texts-two (take (length b - 2) b));
    })
    (λ f. ⊎_elim
    (λ one. let e = ends_in_one b one in record {
      front = take (length b - 1) b;
      is = ap (λ (l : List ℕ). b ++ l) (missing-one b f one) ∙ e;
      texts = sym (sym (texts-feed b) ∙ ap texts_of e ∙ texts-two (take (length b - 1) b));
    })
    (λ other. record { front = b; is = ap (λ (l : List ℕ). b ++ l) (missing-two b f other); texts = refl })
    (cases_Bool (ends_with nat_eq b (10 ∷ []))))
    (cases_Bool (length b == 0 || ends_with nat_eq b two_feeds))

-- ---- Add
list-add : (b : List ℕ) (texts : List (List ℕ)) → is_mailbox b ≡ true → All IsProper texts → list_of (b ++ missing_feeds b ++ join texts) ≡ Some (texts_of b ++ texts)
list-add b texts m all = ⊎_elim
    (λ z.
    let nil : b ≡ [] = nil_from_length b (eqb-true _ _ z) in
    let bare : b ++ missing_feeds b ≡ [] = ap (λ (l : List ℕ). b ++ l) (missing-none b (or_left _ _ z)) ∙ append-nil b ∙ nil in
    ap (λ (l : List ℕ). list_of (l ++ join texts)) bare ∙ list_of-join texts all ∙ ap (λ (l : List (List ℕ)). Some (l ++ texts)) (sym (texts-empty b nil)))
    (λ f.
    let r = ready b f in
    let some : length b ≡ 0 → ⊥ = eqb-false _ _ f in
    let p = b ++ missing_feeds b in
    let whole : is_mailbox (p ++ join texts) ≡ true = ap is_mailbox (append_assoc b (missing_feeds b) (join texts)) ∙ is_mailbox-more b (missing_feeds b ++ join texts) m (omega arith) in
    list_of-mailbox (p ++ join texts) whole
    ∙ ap (λ (l : List (List ℕ)). Some l) (ap (λ (l : List ℕ). texts_of (l ++ join texts)) r.is ∙ texts-written r.front (join texts) (join-mailbox texts all)
    ∙ ap (λ (l : List (List ℕ)). l ++ texts_of (join texts)) r.texts ∙ ap (λ (l : List (List ℕ)). texts_of b ++ l) (texts_of-join texts all)))
    (cases_Bool (length b == 0))

pub add-appends : AddAppends
unfolding outcome_of
add-appends current name old texts base h all =
    let s = list_of-some (bytes_of current) old h in
    list-add (bytes_of current) texts s.mailbox all ∙ ap (λ (l : List (List ℕ)). Some (l ++ texts)) s.texts

-- ---- Front
pub front-prepends : FrontPrepends
unfolding outcome_of
front-prepends current name old texts base h all =
    let b = bytes_of current in
    let s = list_of-some b old h in
    list_of-mailbox (join texts ++ b) (is_mailbox-join texts b all s.mailbox)
    ∙ ap (λ (l : List (List ℕ)). Some l) (texts_of-join_front texts b all s.mailbox ∙ ap (λ (l : List (List ℕ)). texts ++ l) s.texts)

-- ---- Rewrite
bytes_of-file : (b : List ℕ) (keep : Bool) → bytes_of (file_of b keep) ≡ b
bytes_of-file b keep = ⊎_elim
    (λ t. ap bytes_of (cond-true _ _ _ t) ∙ sym (nil_from_length b (eqb-true _ _ (and_parts _ _ t).0)))
    (λ f. ap bytes_of (cond-false _ _ _ f))
    (cases_Bool (length b == 0 && not keep))

rewrite-some : (current : Option (List ℕ)) (name : List ℕ) (now list base : List (List ℕ)) (keep : Bool) → list_of_file current ≡ Some now
    → outcome_of current (Rewrite name list keep) base ≡ rewritten now list keep base
unfolding outcome_of rewrite_of
rewrite-some current name now list base keep h = ap (λ (o : Option (List (List ℕ))). rewrite_of o list keep base) h

pub rewrite-keeps : RewriteKeepsTheRest
rewrite-keeps current name list base rest keep h all =
    let proper = list_of-proper (bytes_of current) (base ++ rest) h in
    let others : All IsProper rest = subst (All IsProper) (drop_at base rest (length base) refl) (All-drop IsProper (length base) (base ++ rest) proper) in
    ap list_after (rewrite-some current name (base ++ rest) list base keep h ∙ rewritten-same base rest list keep)
    ∙ ap list_of (bytes_of-file (join list ++ join rest) keep ∙ sym (join-append list rest))
    ∙ list_of-join (list ++ rest) (All-append IsProper list rest all others)

front_is : (now base : List (List ℕ)) → starts_with bytes_eq now base ≡ true → (rest : List (List ℕ)) × (now ≡ base ++ rest)
front_is now base h =
    let e = (slice_eq-Decides bytes_eq-Decides base (take (length base) now) _ refl).0 h in
    (drop (length base) now, sym (take-append-drop (length base) now) ∙ ap (λ (l : List (List ℕ)). l ++ drop (length base) now) (sym e))

difference : (now base : List (List ℕ)) → starts_with bytes_eq now base ≡ false → IsFirstDifference base now (common_prefix_len bytes_eq base now)
difference now [] h = absurd (false≢true (sym h))
difference [] (x ∷ xs) h = record { within = omega arith; same = refl; other = λ e. (cc) }
difference (y ∷ ys) (x ∷ xs) h =
    let k = common_prefix_len bytes_eq xs ys in
    let D = IsFirstDifference (x ∷ xs) (y ∷ ys) in
    ⊎_elim
    (λ t.
    let one_more : 1 + k ≡ suc k = omega arith in
    let later : starts_with bytes_eq ys xs ≡ false = ⊎_elim (λ f. absurd (false≢true (sym f ∙ t))) (λ f. f) (and_cases _ _ h) in
    let d = difference ys xs later in
    let within = d.within in
    let equal : y ≡ x = sym ((bytes_eq-Decides x y).0 t) in
    let here : D (suc k) = record { within = omega arith; same = ap (λ (z : List ℕ). z ∷ take k ys) equal ∙ ap (λ (l : List (List ℕ)). x ∷ l) d.same; other = d.other } in
    subst D (sym (cond-true _ _ _ t ∙ one_more)) here)
    (λ f.
    let here : D 0 = record { within = omega arith; same = refl; other = λ e. let equal : y ≡ x = cc in false≢true (sym f ∙ (bytes_eq-Decides x y).1 (sym equal)) } in
    subst D (sym (cond-false _ _ _ f)) here)
    (cases_Bool (bytes_eq x y))

pub rewrite-by_base : RewriteByTheBase
rewrite-by_base current name now list base keep h =
    let P = λ (file : Option (List ℕ)). (rest : List (List ℕ)) × (now ≡ base ++ rest) × (file ≡ file_of (join list ++ join rest) keep) in
    let Q = λ (at : ℕ). (k : ℕ) × (at ≡ k + 1) × IsFirstDifference base now k in
    let M = λ (r : Result (Option (List ℕ)) ℕ). MatchResult r P Q in
    subst M (sym (rewrite-some current name now list base keep h)) (⊎_elim
    (λ t.
    let front = front_is now base t in
    subst M (sym (ap (λ (l : List (List ℕ)). rewritten l list keep base) front.1 ∙ rewritten-same base front.0 list keep)) (front.0, front.1, refl))
    (λ f.
    let k = common_prefix_len bytes_eq base now in
    subst M (sym (rewritten-other now base list keep k (record { other = f; same = refl }))) (k, refl, difference now base f))
    (cases_Bool (starts_with bytes_eq now base)))
