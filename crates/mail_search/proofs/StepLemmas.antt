-- The steps of the code's reader.
use Rattle.std.proofs.Common.{◌≡◌, List, [], ◌∷◌, ◌++◌, None, sym, ap, ◌∙◌}
use Rattle.std.proofs.lemmas.List.Sums.{fold_push}
use Rattle.mail_search.specs.declared.argument.Argument.{Argument}
use Rattle.mail_search.specs.declared.criterion.Step.{Step}
use Rattle.mail_search.specs.declared.criterion.Step.TheVariants.{Not, Or, Both}
use Rattle.mail_search.specs.declared.reader.Frame.{Frame}
use Rattle.mail_search.specs.declared.reader.Frame.TheVariants.{Negation, First, Second, Group, More}
use Rattle.mail_search.specs.declared.reader.Want.{Want}
use Rattle.mail_search.specs.declared.reader.Want.TheVariants as want
use Rattle.mail_search.specs.Keys.{Key}
use Rattle.mail_search.specs.Reading.{Reading, reading, settled, keyed, argued, by_want, after_token}
use Rattle.mail_search.specs.Steps.{with_step, keys_of}
use Rattle.mail_search.specs.Tokens.{Token}

pub keys-push : (old new : List Step) (s : Step) → new ≡ old ++ s ∷ [] → keys_of new ≡ with_step (keys_of old) s
keys-push old new s is = ap keys_of is ∙ fold_push with_step [] old s

-- a frame is settled
pub settle-negation : (all rest : List Frame) (f : Frame) (old new : List Step) → all ≡ f ∷ rest → f ≡ Negation → new ≡ old ++ Not ∷ [] → settled rest (keys_of new) ≡ settled all (keys_of old)
unfolding settled
settle-negation all rest f old new cut is more =
    ap (settled rest) (keys-push old new Not more) ∙ sym (ap (λ (fs : List Frame). settled fs (keys_of old)) (cut ∙ ap (λ (x : Frame). x ∷ rest) is))

pub settle-second : (all rest : List Frame) (f : Frame) (old new : List Step) → all ≡ f ∷ rest → f ≡ Second → new ≡ old ++ Or ∷ [] → settled rest (keys_of new) ≡ settled all (keys_of old)
unfolding settled
settle-second all rest f old new cut is more =
    ap (settled rest) (keys-push old new Or more) ∙ sym (ap (λ (fs : List Frame). settled fs (keys_of old)) (cut ∙ ap (λ (x : Frame). x ∷ rest) is))

pub settle-first : (all rest : List Frame) (f : Frame) (ks : List Key) → all ≡ f ∷ rest → f ≡ First → reading (Second ∷ rest) ks want.Key ≡ settled all ks
unfolding settled
settle-first all rest f ks cut is = sym (ap (λ (fs : List Frame). settled fs ks) (cut ∙ ap (λ (x : Frame). x ∷ rest) is))

pub settle-group : (all rest : List Frame) (f : Frame) (ks : List Key) → all ≡ f ∷ rest → f ≡ Group → reading (More ∷ rest) ks want.Key ≡ settled all ks
unfolding settled
settle-group all rest f ks cut is = sym (ap (λ (fs : List Frame). settled fs ks) (cut ∙ ap (λ (x : Frame). x ∷ rest) is))

pub settle-more : (all rest : List Frame) (f : Frame) (old new : List Step) → all ≡ f ∷ rest → f ≡ More → new ≡ old ++ Both ∷ []
    → reading (More ∷ rest) (keys_of new) want.Key ≡ settled all (keys_of old)
unfolding settled
settle-more all rest f old new cut is more =
    ap (λ (ks : List Key). reading (More ∷ rest) ks want.Key) (keys-push old new Both more) ∙ sym (ap (λ (fs : List Frame). settled fs (keys_of old)) (cut ∙ ap (λ (x : Frame). x ∷ rest) is))

pub settle-none : (all rest : List Frame) (ks : List Key) → all ≡ [] → rest ≡ [] → reading rest ks want.Nothing ≡ settled all ks
unfolding settled
settle-none all rest ks none left = ap (λ (fs : List Frame). reading fs ks want.Nothing) left ∙ sym (ap (λ (fs : List Frame). settled fs ks) none)

-- a token, by what comes next
pub take-key : (r : Reading) (t : Token) → want.Key ≡ r.want → keyed r.frames r.keys t ≡ after_token r t
unfolding after_token
take-key r t is = ap (λ (w : Want). by_want r.frames r.keys w t) is

pub take-argument : (r : Reading) (t : Token) (a : Argument) → want.Argument a ≡ r.want → argued r.frames r.keys a t ≡ after_token r t
unfolding after_token
take-argument r t a is = ap (λ (w : Want). by_want r.frames r.keys w t) is

pub take-nothing : (r : Reading) (t : Token) → want.Nothing ≡ r.want → after_token r t ≡ None
unfolding after_token
take-nothing r t is = sym (ap (λ (w : Want). by_want r.frames r.keys w t) is)
