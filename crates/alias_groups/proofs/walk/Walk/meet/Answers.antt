use Rattle.std.proofs.Common.{◌≡◌, ap, sym, subst, ◌∙◌, ◌∷◌, true, false}
use Rattle.std.specs.Map.{keys_of}
use Rattle.std.proofs.lemmas.Result.{IfOk-weaker}
use Rattle.alias_groups.specs.Unwinding.{IsNext, Walking}
use Rattle.alias_groups.specs.Walk.{is_among}
use Rattle.alias_groups.proofs.EntryLemmas.{inside-view, over-view}
use Rattle.alias_groups.proofs.StepLemmas.{long_inside, long_name, next_inside, next_name, next_opened, next_over}
use Rattle.alias_groups.proofs.WalkLemmas.{Names}
use Rattle.alias_groups.proofs.walk.Walk.meet.Goals as goal

pub returns-then-contains_key-clause-next : goal.returns-then-contains_key-clause-next
returns-then-contains_key-clause-next c =
    let w = c.args.self.now in
    let name = c.args.name.now in
    let left = c.args.left.now in
    let groups = c.args.aliases.now in
    let dropped = c.args.dropped.now in
    let inside : is_among (keys_of w.inside) name ≡ true =
    sym (ap (λ (v : Walking). is_among (keys_of v.inside) name) c.self.view_is) ∙ sym (inside-view c.self.inside.inside.entries name) ∙ sym c.contains_key.ensures ∙ c.if-contains_key.true in
    IfOk-weaker c.add.result _ _
    (λ next h. subst (λ (l : Names). IsNext groups dropped w (name ∷ left) c.add.new.self l) (sym h.list)
    (next_inside groups dropped w name left c.requires c.in-Some.members.now c.add.new.self (sym c.in-Some.ensures) inside h.same h.few))
    c.add.ensures.next

pub returns-then-contains_key-clause-too_many : goal.returns-then-contains_key-clause-too_many
returns-then-contains_key-clause-too_many c =
    let w = c.args.self.now in
    let name = c.args.name.now in
    let inside : is_among (keys_of w.inside) name ≡ true =
    sym (ap (λ (v : Walking). is_among (keys_of v.inside) name) c.self.view_is) ∙ sym (inside-view c.self.inside.inside.entries name) ∙ sym c.contains_key.ensures ∙ c.if-contains_key.true in
    λ e. long_inside c.args.aliases.now c.args.dropped.now w name c.args.left.now c.requires c.in-Some.members.now (sym c.in-Some.ensures) inside (c.add.ensures.too_many e)

pub returns-then-contains-clause-next : goal.returns-then-contains-clause-next
returns-then-contains-clause-next c =
    let w = c.args.self.now in
    let name = c.args.name.now in
    let outside : is_among (keys_of w.inside) name ≡ false =
    sym (ap (λ (v : Walking). is_among (keys_of v.inside) name) c.self.view_is) ∙ sym (inside-view c.self.inside.inside.entries name) ∙ sym c.contains_key.ensures ∙ c.if-contains_key.false in
    let over : is_among w.over name ≡ true =
    sym (ap (λ (v : Walking). is_among v.over name) c.self.view_is) ∙ sym (over-view c.self.inside.over.keys name) ∙ sym c.contains.ensures ∙ c.if-contains.true in
    next_over c.args.aliases.now c.args.dropped.now w name c.args.left.now c.requires c.in-Some.members.now (sym c.in-Some.ensures) outside over

pub open-requires : goal.open-requires
open-requires c =
    let name = c.args.name.now in
    sym (ap (λ (v : Walking). is_among (keys_of v.inside) name) c.self.view_is) ∙ sym (inside-view c.self.inside.inside.entries name) ∙ sym c.contains_key.ensures ∙ c.if-contains_key.false

pub returns-in_ok-open-in-Some-clause-next : goal.returns-in_ok-open-in-Some-clause-next
returns-in_ok-open-in-Some-clause-next c =
    let w = c.args.self.now in
    let name = c.args.name.now in
    let outside : is_among (keys_of w.inside) name ≡ false =
    sym (ap (λ (v : Walking). is_among (keys_of v.inside) name) c.self.view_is) ∙ sym (inside-view c.self.inside.inside.entries name) ∙ sym c.contains_key.ensures ∙ c.if-contains_key.false in
    let fresh : is_among w.over name ≡ false =
    sym (ap (λ (v : Walking). is_among v.over name) c.self.view_is) ∙ sym (over-view c.self.inside.over.keys name) ∙ sym c.contains.ensures ∙ c.if-contains.false in
    next_opened c.args.aliases.now c.args.dropped.now w name c.args.left.now c.requires c.in-Some.members.now c.open.new.self (sym c.in-Some.ensures) outside fresh c.in_ok-open-in-Some.ensures

pub returns-in-None-clause-next : goal.returns-in-None-clause-next
returns-in-None-clause-next c =
    let w = c.args.self.now in
    let name = c.args.name.now in
    let left = c.args.left.now in
    let groups = c.args.aliases.now in
    let dropped = c.args.dropped.now in
    IfOk-weaker c.add-in-None.result _ _
    (λ next h. subst (λ (l : Names). IsNext groups dropped w (name ∷ left) c.add-in-None.new.self l) (sym h.list)
    (next_name groups dropped w name left c.requires c.add-in-None.new.self (sym c.in-None.ensures) h.same h.few))
    c.add-in-None.ensures.next

pub returns-in-None-clause-too_many : goal.returns-in-None-clause-too_many
returns-in-None-clause-too_many c =
    λ e. long_name c.args.aliases.now c.args.dropped.now c.args.self.now c.args.name.now c.args.left.now c.requires (sym c.in-None.ensures) (c.add-in-None.ensures.too_many e)
