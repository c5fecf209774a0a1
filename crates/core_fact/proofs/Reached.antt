-- The fact holds of every state that is reached.
use Rattle.std.proofs.Common.{◌≡◌, Some}
use Rattle.core_steps.specs.declared.step.CoreStep.{CoreStep}
use Rattle.core_steps.specs.Cores.{CoreState, stepped}
use Rattle.core_steps.specs.Theorem.{IsReached}
use Rattle.core_steps.proofs.Fact.{Fact}
use Rattle.core_steps.proofs.Ground.{Ground}
use Rattle.core_fact.proofs.Memory.{Memory}
use Rattle.core_fact.proofs.Interleavings.{reached_kept, step_ground, step_memory}

pub fact_of : (s : CoreState) → Ground s → Memory s → Fact s
fact_of s g m = record {
  fit = g.fit;
  one_token = g.one_token;
  job = λ k a t past at. g.job k a t past at.is;
  knows = λ k a t past at. g.knows k a t past at.is;
  not_over = λ k a t past at. g.not_over k a t past at.is;
  left_nothing = g.left_nothing;
  has_right = λ k a t past at. (m.remembered k a t past at.is).has_right;
  holder = λ q k h. let w = m.holder q k h in (w.0, w.1, w.2, record { is = w.3 }, w.4, w.5);
  plain = λ a b r n ma mb stands mn. g.orderly.plain a b ma mb r n stands mn;
  allowed = λ k a changes moment past at. g.allowed k a changes moment past at.is;
  record_stays = λ k a t past n c at h so e. (m.remembered k a t past at.is).record_stays n c h so e;
  lock_named = g.lock_named;
  staged_named = g.staged_named;
  locked_stays = λ k a t past n at e. (m.remembered k a t past at.is).locked_stays n e;
  loaded_stays = λ k a t past n c at l e. (m.remembered k a t past at.is).loaded_stays n c l e;
  staged_stays = λ k a t past n c at e. (m.remembered k a t past at.is).staged_stays n c e;
  sound = g.orderly.sound;
  tokens_apart = λ a b r q ma mb x y same. g.orderly.apart a b ma mb r q x y same;
  token_at_home = g.token_at_home;
  found_lock = λ k a t past r n l at h stands e lock. (m.remembered k a t past at.is).found_lock r n l h stands e lock;
  found_staged = λ k a t past r n c at h stands e. (m.remembered k a t past at.is).found_staged r n c h stands e;
  own_lock = λ k a t past n at l. (m.remembered k a t past at.is).own_lock n l;
  own_staged = λ k a t past n at some. (m.remembered k a t past at.is).own_staged n some;
  by_right = g.by_right;
}

-- the two parts of the fact are the fact
pub fact_ground : (s : CoreState) → Fact s → Ground s
fact_ground s f = record {
  fit = f.fit;
  one_token = f.one_token;
  job = λ k a t past at. f.job k a t past (record { is = at });
  knows = λ k a t past at. f.knows k a t past (record { is = at });
  not_over = λ k a t past at. f.not_over k a t past (record { is = at });
  left_nothing = f.left_nothing;
  allowed = λ k a changes moment past at. f.allowed k a changes moment past (record { is = at });
  orderly = record {
    sound = f.sound;
    plain = λ a b ma mb r n stands mn. f.plain a b r n ma mb stands mn;
    apart = λ a b ma mb r q x y same. f.tokens_apart a b r q ma mb x y same;
  };
  lock_named = f.lock_named;
  staged_named = f.staged_named;
  token_at_home = f.token_at_home;
  by_right = f.by_right;
}

pub fact_memory : (s : CoreState) → Fact s → Memory s
fact_memory s f = record {
  remembered = λ k a t past at. record {
    has_right = f.has_right k a t past (record { is = at });
    record_stays = λ n c h so e. f.record_stays k a t past n c (record { is = at }) h so e;
    locked_stays = λ n e. f.locked_stays k a t past n (record { is = at }) e;
    loaded_stays = λ n c l e. f.loaded_stays k a t past n c (record { is = at }) l e;
    staged_stays = λ n c e. f.staged_stays k a t past n c (record { is = at }) e;
    found_lock = λ r n l h stands e lock. f.found_lock k a t past r n l (record { is = at }) h stands e lock;
    found_staged = λ r n c h stands e. f.found_staged k a t past r n c (record { is = at }) h stands e;
    own_lock = λ n l. f.own_lock k a t past n (record { is = at }) l;
    own_staged = λ n some. f.own_staged k a t past n (record { is = at }) some;
  };
  holder = λ q k h. let w = f.holder q k h in (w.0, w.1, w.2, w.3.is, w.4, w.5);
}

-- every step keeps the fact
pub fact_kept : (s now : CoreState) (step : CoreStep) → Fact s → stepped s step ≡ Some now → Fact now
fact_kept s now step f h = fact_of now (step_ground s (fact_ground s f) step now h) (step_memory s (fact_ground s f) (fact_memory s f) step now h)

pub reached_fact : (s : CoreState) → IsReached s → Fact s
reached_fact s reached = let w = reached_kept s reached in fact_of s w.1.ground w.1.memory
