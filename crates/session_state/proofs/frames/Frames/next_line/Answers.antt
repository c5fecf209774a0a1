use Rattle.std.proofs.Common.{List, [], ◌∷◌, ◌++◌, refl, sym, ◌∙◌, ap, append_assoc}
use Rattle.std.proofs.lemmas.List.{append-nil}
use Rattle.std.specs.declared.option.Option.TheVariants.{Some}
use Rattle.session_state.specs.Waits.{Pending}
use Rattle.session_state.specs.Pending.{taken, open_before}
use Rattle.session_state.proofs.PendingLemmas.{taken-closed, put-back, open-then, not-none}
use Rattle.session_state.proofs.frames.Frames.next_line.Goals as goal

pub frames-init : goal.frames-init
frames-init c = record { same = refl; none = λ none. none; shut = ([], sym (append-nil c.args.self.now), refl) }

pub returns-in-Ok-Some-clause-taken : goal.returns-in-Ok-Some-clause-taken
returns-in-Ok-Some-clause-taken c =
    put-back c.put_back.result c.args.self.now c.pop.new.self _ c.in-Some.frame c.next_line.new.self c.in-Ok-Some.text c.put_back.ensures.line c.put_back.ensures.back
    (ap taken (sym c.in-Some.ensures.some) ∙ c.frames.invariant.same) (rw c.in-Ok-Some.field-0-is at c.in-Ok-Some.ensures.ok)

pub returns-in-Ok-Some-clause-nested : goal.returns-in-Ok-Some-clause-nested
returns-in-Ok-Some-clause-nested c =
    let shut = c.frames.invariant.shut in
    open-then c.put_back.result c.args.self.now c.pop.new.self _ shut.0 c.in-Some.frame c.next_line.new.self c.frames.nested c.put_back.ensures.nested c.put_back.ensures.back
    (shut.1 ∙ ap (λ (fs : List Pending). fs ++ shut.0) c.in-Some.ensures.some) shut.2

pub frames-preserved : goal.frames-preserved
frames-preserved c =
    let none = rw c.in-Ok-None.field-0-is at c.in-Ok-None.ensures.ok in
    let shut = c.frames.invariant.shut in
    record {
      same = sym (taken-closed c.pop.new.self c.in-Some.frame none.0) ∙ (ap taken (sym c.in-Some.ensures.some) ∙ c.frames.invariant.same);
      none = λ idle. absurd (not-none c.pop.new.self c.in-Some.frame (sym c.in-Some.ensures.some ∙ c.frames.invariant.none idle));
      shut = (
        c.in-Some.frame ∷ shut.0,
        shut.1 ∙ (ap (λ (fs : List Pending). fs ++ shut.0) c.in-Some.ensures.some ∙ append_assoc c.pop.new.self (c.in-Some.frame ∷ []) shut.0),
        ap Some c.open_before.ensures ∙ ap (λ (f : Pending). open_before (f ∷ shut.0)) none.1,
      );
    }
