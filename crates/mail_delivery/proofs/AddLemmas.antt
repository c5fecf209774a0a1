-- A delivery adds its text to each mailbox once.
use Rattle.std.proofs.Common.{◌≡◌, ◌≢◌, ◌||◌, ℕ, Bool, true, false, List, [], ◌∷◌, ◌++◌, drop, codes, Option, Some, Result, Ok, Err, refl, ap, sym, ◌∙◌, subst, inl, inr}
use Rattle.std.specs.List.{All}
use Rattle.std.specs.Str.{bytes_eq}
use Rattle.std.proofs.lemmas.List.Elements.{All-nil, All-cons}
use Rattle.host_port.specs.Own.{own}
use Rattle.mail_text.specs.Lines.{lines_of}
use Rattle.mbox_scan.specs.Mailbox.{IsProper}
use Rattle.folder_change.specs.declared.change.Change.{Change}
use Rattle.folder_change.specs.declared.change.Change.TheVariants.{Add}
use Rattle.folder_change.specs.Changes.{name_of}
use Rattle.folder_change.specs.Outcomes.{outcome_of}
use Rattle.folder_change.specs.ListLaws.{list_of_file, list_after}
use Rattle.folder_change.specs.Apply.{Files, put_outcome, after, apply}
use Rattle.folder_change.proofs.ApplyLemmas.{put-here, after-other, apply-other}
use Rattle.folder_change.proofs.LawLemmas.{add-appends}
use Rattle.commit_machine.specs.Records.{has, AreDistinct}
use Rattle.commit_machine.proofs.records.Same.{same_or_not}
use Rattle.mailx_vars.specs.Environment.{variable}
use Rattle.session_play.specs.Committing.{Commit}
use Rattle.play_safety.specs.Appended.{Adds, nothing, passes, puts}
use Rattle.play_safety.proofs.AppendedLemmas.{all-followed}
use Rattle.mail_delivery.specs.Words.{actor, mailbox}
use Rattle.mail_delivery.specs.Delivered.{delivered}
use Rattle.mail_delivery.specs.Meaning.{additions}
use Rattle.mail_delivery.specs.Source.{input_in}
use Rattle.mail_delivery.specs.Laws.{EachGetsOne, DoneStands}
use Rattle.mail_delivery.proofs.ProperLemmas.{input-proper}
use Rattle.mail_delivery.proofs.RequestLemmas.{reading-good}

-- users of one mailbox are one
one-user : (a b : List ℕ) → mailbox a ≡ mailbox b → a ≡ b
one-user a b e = ap (drop 10) e

listed : (files : Files) (n : List ℕ) (o : Result (Option (List ℕ)) ℕ) (l : List (List ℕ)) → list_after o ≡ Some l → list_of_file (put_outcome files n o n) ≡ Some l
listed files n (Ok file) l h = ap list_of_file (put-here files n file) ∙ h
listed files n (Err at) l h = absurd (cc h)

-- ---- others
all-other : (text name : List ℕ) (users : List (List ℕ)) → ((user : List ℕ) → has users user ≡ true → name ≢ mailbox user) → All (λ (c : Change). name ≢ name_of c) (additions text users)
all-other text name [] other = All-nil (λ (c : Change). name ≢ name_of c)
all-other text name (u ∷ us) other =
    All-cons (λ (c : Change). name ≢ name_of c) (Add (mailbox u) (text ∷ [])) (additions text us)
    (other u (here u us)) (all-other text name us (λ user h. other user (later user u us h)))
  where
    here : (u : List ℕ) (us : List (List ℕ)) → has (u ∷ us) u ≡ true
    here u us = elim (same_or_not u u) [ inl p ↦ ap (λ (b : Bool). b || has us u) p.1 | inr p ↦ absurd (p.0 refl) ]

    either : (b : Bool) → (b || true) ≡ true
    either true = refl
    either false = refl

    later : (user u : List ℕ) (us : List (List ℕ)) → has us user ≡ true → has (u ∷ us) user ≡ true
    later user u us h = ap (λ (b : Bool). bytes_eq user u || b) h ∙ either (bytes_eq user u)

-- ---- the mailbox of a user
not-again : (users : List (List ℕ)) (u : List ℕ) → has users u ≡ false → (user : List ℕ) → has users user ≡ true → mailbox u ≢ mailbox user
not-again users u none user h e = let same : has users u ≡ has users user = ap (has users) (one-user u user e) in absurd (cc (none, h, same))

added-once : (text : List ℕ) (users : List (List ℕ)) (files : Files) (user : List ℕ) (old : List (List ℕ)) → IsProper text → AreDistinct users → has users user ≡ true
    → list_of_file (files (mailbox user)) ≡ Some old → list_of_file (apply (additions text users) [] files (mailbox user)) ≡ Some (old ++ text ∷ [])
unfolding apply
added-once text [] files user old proper once h is = absurd (cc h)
added-once text (u ∷ us) files user old proper once h is =
    let change : Change = Add (mailbox u) (text ∷ []) in
    let next : Files = after files change [] in
    elim (same_or_not user u) [
      | inl p ↦
          let same : mailbox user ≡ mailbox u = ap mailbox p.0 in
          let rest : apply (additions text us) [] next (mailbox user) ≡ next (mailbox user) =
          apply-other (additions text us) [] next (mailbox user) (all-other text (mailbox user) us (λ other k. subst (λ (n : List ℕ). n ≢ mailbox other) (sym same) (not-again us u once.0 other k))) in
          let now : list_of_file (next (mailbox u)) ≡ Some (old ++ text ∷ []) =
          listed files (mailbox u) (outcome_of (files (mailbox u)) change []) (old ++ text ∷ [])
          (add-appends (files (mailbox u)) (mailbox u) old (text ∷ []) [] (ap (λ (n : List ℕ). list_of_file (files n)) (sym same) ∙ is) (All-cons IsProper text [] proper (All-nil IsProper))) in
          ap list_of_file rest ∙ ap (λ (n : List ℕ). list_of_file (next n)) same ∙ now
      | inr p ↦
          let still : next (mailbox user) ≡ files (mailbox user) = after-other files change [] (mailbox user) (λ e. p.0 (one-user user u e)) in
          let among : has us user ≡ true = ap (λ (b : Bool). b || has us user) (sym p.1) ∙ h in
          added-once text us next user old proper once.1 among (ap list_of_file still ∙ is)
    ]

pub each-gets-one : EachGetsOne
each-gets-one text users files proper once = record {
  mailboxes = λ user old h is. added-once text users files user old proper once h is;
  others = λ name other. apply-other (additions text users) [] files name (all-other text name users other);
}

-- ---- the text stands from the decision on
adds-none : (text : List ℕ) (users : List (List ℕ)) (user : List ℕ) → has users user ≡ false → Adds (mailbox user) (additions text users) []
adds-none text [] user none = nothing
adds-none text (u ∷ us) user none = elim (same_or_not user u) [
  | inl p ↦ absurd (let among : has (u ∷ us) user ≡ true = ap (λ (b : Bool). b || has us user) p.1 in cc (none, among))
  | inr p ↦
      let later : has us user ≡ false = ap (λ (b : Bool). b || has us user) (sym p.1) ∙ none in
      passes (λ e. p.0 (one-user user u e)) (adds-none text us user later)
]

adds-once : (text : List ℕ) (users : List (List ℕ)) (user : List ℕ) → IsProper text → AreDistinct users → has users user ≡ true → Adds (mailbox user) (additions text users) (text ∷ [])
adds-once text [] user proper once h = absurd (cc h)
adds-once text (u ∷ us) user proper once h = elim (same_or_not user u) [
  | inl p ↦
      let one : All IsProper (text ∷ []) = All-cons IsProper text [] proper (All-nil IsProper) in
      let here : Adds (mailbox u) (additions text (u ∷ us)) (text ∷ []) = puts one (adds-none text us u once.0) in
      subst (λ (w : List ℕ). Adds (mailbox w) (additions text (u ∷ us)) (text ∷ [])) (sym p.0) here
  | inr p ↦
      let among : has us user ≡ true = ap (λ (b : Bool). b || has us user) (sym p.1) ∙ h in
      passes (λ e. p.0 (one-user user u e)) (adds-once text us user proper once.1 among)
]

pub done-stands : DoneStands
done-stands words request env d es asked safe =
    let good = reading-good words env.pairs request asked in
    let c = safe.accepted.0 in
    let is = safe.accepted.1 in
    let of = safe.accepted.2 in
    let input = input_in (own es) in
    let text = delivered request.sender (lines_of input) of.moment in
    let proper = input-proper request.sender input (variable env.pairs (codes "TZ")) of.told.seconds of.moment good.sender of.told.moment in
    let followed = all-followed actor env.token d es safe.commits safe.out safe.safe in
    let at = followed.accepted [] [] c is in (
      of.moment,
      of.told,
      of.ended,
      record {
        front = at.0;
        decision = at.1;
        rest = at.2;
        is = at.3;
        behind = λ user before later now h left alone held.
            let adds = subst (λ (k : Commit). Adds (mailbox user) k.changes (text ∷ [])) (sym of.is) (adds-once text request.users user proper good.once h) in
            followed.adds at.0 later at.1 now c (mailbox user) (text ∷ []) before left at.4 alone adds held;
      },
    )
