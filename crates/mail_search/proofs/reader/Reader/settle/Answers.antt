use Rattle.std.proofs.Common.{◌≡◌, ◌∙◌, subst}
use Rattle.std.specs.Prelude.{OnOk}
use Rattle.mail_search.specs.Reading.{Reading, reading_of}
use Rattle.mail_search.specs.Steps.{keys_of}
use Rattle.mail_search.proofs.StepLemmas.{settle-negation, settle-second, settle-first, settle-group, settle-more, settle-none}
use Rattle.mail_search.proofs.reader.Reader.settle.Goals as goal

pub loop-frame-preserved-in-Continue-1 : goal.loop-frame-preserved-in-Continue-1
loop-frame-preserved-in-Continue-1 c =
    settle-negation c.loop-frame.self.frames c.pop.new.self c.in-Some.frame c.loop-frame.self.steps c.push.new.self c.in-Some.ensures c.in-Negation.is
    c.in_ok-push-in-Negation.ensures.ok ∙ c.loop-frame.invariant

pub loop-frame-preserved : goal.loop-frame-preserved
loop-frame-preserved c =
    settle-second c.loop-frame.self.frames c.pop.new.self c.in-Some.frame c.loop-frame.self.steps c.push-in-Second.new.self c.in-Some.ensures
    c.in-Second.is c.in_ok-push-in-Second.ensures.ok ∙ c.loop-frame.invariant

pub returns-in-First : goal.returns-in-First
returns-in-First c =
    subst (λ (r : Reading). OnOk c.go_on.result (reading_of c.go_on.new.self ≡ r))
    (settle-first c.loop-frame.self.frames c.pop.new.self c.in-Some.frame (keys_of c.loop-frame.self.steps) c.in-Some.ensures c.in-First.is ∙ c.loop-frame.invariant) c.go_on.ensures

pub returns-in-Group : goal.returns-in-Group
returns-in-Group c =
    subst (λ (r : Reading). OnOk c.go_on-in-Group.result (reading_of c.go_on-in-Group.new.self ≡ r))
    (settle-group c.loop-frame.self.frames c.pop.new.self c.in-Some.frame (keys_of c.loop-frame.self.steps) c.in-Some.ensures c.in-Group.is ∙ c.loop-frame.invariant) c.go_on-in-Group.ensures

pub returns-in-More : goal.returns-in-More
returns-in-More c =
    subst (λ (r : Reading). OnOk c.go_on-in-More.result (reading_of c.go_on-in-More.new.self ≡ r))
    (settle-more c.loop-frame.self.frames c.pop.new.self c.in-Some.frame c.loop-frame.self.steps c.push-in-More.new.self c.in-Some.ensures
    c.in-More.is c.in_ok-push-in-More.ensures.ok ∙ c.loop-frame.invariant) c.go_on-in-More.ensures

pub returns : goal.returns
returns c =
    settle-none c.loop-frame.self.frames c.pop.new.self (keys_of c.loop-frame.self.steps) c.in_default.ensures.0 c.in_default.ensures.1 ∙ c.loop-frame.invariant
