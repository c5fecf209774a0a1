-- States at rest.
use Rattle.std.proofs.Common.{◌≡◌, ℕ, Bool, true, List, [], ◌∷◌, length, drop, refl, sym, ◌∙◌, ap, subst}
use Rattle.std.specs.declared.option.Option.{Option}
use Rattle.std.specs.declared.option.Option.TheVariants.{Some, None}
use Rattle.std.specs.Prelude.{false, is_some, map}
use Rattle.std.proofs.lemmas.Bool.{cond-true, cond-false}
use Rattle.std.proofs.lemmas.List.{take_min, drop-map}
use Rattle.mailx_macros.specs.Macros.{Definitions, Macro}
use Rattle.rc_conditionals.specs.declared.conditions.Condition.{Condition}
use Rattle.command_desk.specs.declared.desk.Desk.{Desk}
use Rattle.command_desk.specs.Desks.{IsDesk}
use Rattle.session_state.specs.declared.state.SessionState.{SessionState}
use Rattle.session_state.specs.Waits.{Pending}
use Rattle.session_state.specs.Pending.{capped_to, capped, open_before, closed}
use Rattle.session_state.specs.States.{IsActor, IsState, IsSession, is_drafting, with_frames, with_count, still_defining, cut_to, at_rest, line_ended}

pub no-both : {b : Bool} → b ≡ true → b ≡ false → ⊥
no-both holds not_so = absurd (cc (holds, not_so))

-- where no draft is open, a state at rest has no lines that wait
pub line_ended-out : (s : SessionState) → is_drafting s ≡ false → line_ended s ≡ at_rest s
line_ended-out s out = cond-false _ _ _ out

-- and where one is, it is as it is
pub line_ended-in : (s : SessionState) → is_drafting s ≡ true → line_ended s ≡ s
line_ended-in s inside = cond-true _ _ _ inside

-- a session between two lines is at rest
at-rest-same : (s : SessionState) → s.frames ≡ [] → s.count ≡ 0 → at_rest s ≡ s
at-rest-same s over zero =
    let cuts : at_rest s ≡ with_count (with_frames s []) 0 = ap (λ (fs : List Pending). record s { desk = cut_to (open_before fs) s.desk; frames = []; count = 0 }) over in
    cuts ∙ ap (λ (fs : List Pending). with_count (with_frames s fs) 0) (sym over) ∙ ap (λ (n : ℕ). with_count s n) (sym zero)

pub line_ended-same : (s : SessionState) → IsSession s → line_ended s ≡ s
line_ended-same s is = go (is_drafting s) refl
  where
    go : (b : Bool) → is_drafting s ≡ b → line_ended s ≡ s
    go true e = line_ended-in s e
    go false e = line_ended-out s e ∙ at-rest-same s (is.frames e) (is.count e)

-- where no definition is under way none is dropped
pub none_dropped : (d : Definitions) → is_some d.unfinished ≡ false → d ≡ record d { unfinished = None }
none_dropped d missing = go d.unfinished missing
  where
    go : (u : Option Macro) → is_some u ≡ false → record d { unfinished = u } ≡ record d { unfinished = None }
    go None h = refl
    go (Some m) h = absurd (cc h)

desk-cut : (o : Option ℕ) (desk : Desk) → IsDesk desk → IsDesk (cut_to o desk)
desk-cut o desk d = record { shown = d.shown; rows = d.rows; marks = d.marks; width = d.width }

-- conditions are no matter of validity
pub rested_valid : (s t : SessionState) → t ≡ line_ended s → IsState s → IsSession t
rested_valid s t same is =
    subst IsSession (sym same) (go (is_drafting s) refl)
  where
    resting : is_drafting s ≡ false → IsSession (at_rest s)
    resting out = record { state = record { desk = desk-cut (open_before s.frames) s.desk is.desk; actor = is.actor }; frames = λ o. refl; count = λ o. refl }

    open_still : is_drafting s ≡ true → IsSession s
    open_still inside = record { state = is; frames = λ o. absurd (no-both inside o); count = λ o. absurd (no-both inside o) }

    go : (b : Bool) → is_drafting s ≡ b → IsSession (line_ended s)
    go true e = subst IsSession (sym (line_ended-in s e)) (open_still e)
    go false e = subst IsSession (sym (line_ended-out s e)) (resting e)

-- the desk but for its conditions, and the actor, are as in a valid state
pub kept_valid : (s t : SessionState) (o : Option ℕ) → t.desk ≡ cut_to o s.desk → t.actor ≡ s.actor → IsState s → IsState t
kept_valid s t o desk actor is = record { desk = subst IsDesk (sym desk) (desk-cut o s.desk is.desk); actor = subst IsActor (sym actor) is.actor }

-- how many commands are counted is no matter to a state at rest
pub counted-line_ended : (s : SessionState) (n : ℕ) → is_drafting s ≡ false → line_ended (with_count s n) ≡ line_ended s
counted-line_ended s n out = let same : at_rest (with_count s n) ≡ at_rest s = refl in line_ended-out (with_count s n) out ∙ (same ∙ sym (line_ended-out s out))

-- frames that were told how many conditions are open leave as many as before, once they are closed
first-capped : (desk : Desk) (fs : List Pending) → cut_to (open_before (map (capped_to (length desk.conditions)) fs)) desk ≡ cut_to (open_before fs) desk
first-capped desk [] = refl
first-capped desk (f ∷ fs) =
    ap (λ (cs : List Condition). record desk { conditions = cs; macros = still_defining (Some f.nested) desk.macros }) (take_min f.nested desk.conditions)

pub cut-capped : (desk : Desk) (fs left : List Pending) → cut_to (open_before (closed (capped (length desk.conditions) fs) left)) desk ≡ cut_to (open_before (closed fs left)) desk
cut-capped desk fs left =
    ap (λ (gs : List Pending). cut_to (open_before gs) desk) (drop-map (capped_to (length desk.conditions)) (length left) fs) ∙ first-capped desk (drop (length left) fs)
