-- What is spelled is read: tokens that spell a key are read to that key.
use Rattle.std.proofs.Common.{◌≡◌, ℕ, suc, ◌+◌, ◌<◌, List, [], ◌∷◌, ◌++◌, length, Option, Some, None, refl, sym, ap, ◌∙◌, append_assoc, arith}
use Rattle.std.specs.Option.{option_map, option_and_then}
use Rattle.std.proofs.lemmas.Bool.{cond-true, lt-ltb}
use Rattle.std.proofs.lemmas.List.{append-nil}
use Rattle.mail_search.specs.declared.argument.Argument.{Argument}
use Rattle.mail_search.specs.declared.argument.Argument.TheVariants as needs
use Rattle.mail_search.specs.declared.criterion.Test.{Test}
use Rattle.mail_search.specs.declared.criterion.Test.TheVariants as tested
use Rattle.mail_search.specs.declared.names.Opening.{Opening}
use Rattle.mail_search.specs.declared.names.Opening.TheVariants.{All, Is, Field, Header, Body, Text, Larger, Smaller, Day, Not, Or}
use Rattle.mail_search.specs.declared.reader.Frame.{Frame}
use Rattle.mail_search.specs.declared.reader.Frame.TheVariants.{Negation, First, Second, Group, More}
use Rattle.mail_search.specs.declared.reader.Want.TheVariants as want
use Rattle.mail_search.specs.Grammar.{string_in, test_with, test_of, IsKey, AreKeys}
use Rattle.mail_search.specs.Grammar.IsKey.{is_test, is_not, is_or, is_group}
use Rattle.mail_search.specs.Grammar.AreKeys.{is_one, are_more}
use Rattle.mail_search.specs.Keys.{Key, test}
use Rattle.mail_search.specs.Names.{opening_of}
use Rattle.mail_search.specs.Reading.{Reading, reading, settled, opened, begun, made, argued, keyed, after_token, after_tokens, start}
use Rattle.mail_search.specs.Tokens.{Token, opener, closer, gap, run, quoted, bad}

pub after_tokens-nil : (r : Option Reading) → after_tokens r [] ≡ r
unfolding after_tokens
after_tokens-nil r = refl

pub after_tokens-cons : (r : Reading) (t : Token) (ts : List Token) → after_tokens (Some r) (t ∷ ts) ≡ after_tokens (after_token r t) ts
unfolding after_tokens
after_tokens-cons r t ts = refl

pub after_tokens-none : (ts : List Token) → after_tokens None ts ≡ None
unfolding after_tokens
after_tokens-none [] = refl
after_tokens-none (t ∷ ts) = after_tokens-none ts

-- a token where a key may begin, and one where an argument comes next
pub at_key : (fs : List Frame) (ks : List Key) (t : Token) → after_token (reading fs ks want.Key) t ≡ keyed fs ks t
unfolding after_token
at_key fs ks t = refl

pub at_argument : (fs : List Frame) (ks : List Key) (a : Argument) (t : Token) → after_token (reading fs ks (want.Argument a)) t ≡ argued fs ks a t
unfolding after_token
at_argument fs ks a t = refl

pub at_end : (fs : List Frame) (ks : List Key) (t : Token) → after_token (reading fs ks want.Nothing) t ≡ None
unfolding after_token
at_end fs ks t = refl

pub opened-some : (fs : List Frame) (ks : List Key) (f : Frame) → length fs < 64 → opened fs ks f ≡ Some (reading (f ∷ fs) ks want.Key)
opened-some fs ks f lt = cond-true _ _ _ (lt-ltb _ _ lt)

-- a name where a key may begin, by what it begins
named : (fs : List Frame) (ks : List Key) (name : List ℕ) (o : Opening) (ts : List Token) → opening_of name ≡ Some o
    → after_tokens (Some (reading fs ks want.Key)) (run name ∷ ts) ≡ after_tokens (begun fs ks name o) ts
named fs ks name o ts is =
    after_tokens-cons _ _ _ ∙ ap (λ (r : Option Reading). after_tokens r ts) (at_key fs ks (run name) ∙ ap (option_and_then (begun fs ks name)) is)

-- an argument that makes a test whole
given : (fs : List Frame) (ks : List Key) (a : Argument) (s : Token) (t : Test) (ts : List Token) → argued fs ks a s ≡ option_map (λ m. settled fs (test m ∷ ks)) (made a s) → made a s ≡ Some t
    → after_tokens (Some (reading fs ks (want.Argument a))) (s ∷ ts) ≡ after_tokens (Some (settled fs (test t ∷ ks))) ts
given fs ks a s t ts by whole =
    after_tokens-cons _ _ _ ∙ ap (λ (r : Option Reading). after_tokens r ts) (at_argument fs ks a s ∙ by ∙ ap (option_map (λ m. settled fs (test m ∷ ks))) whole)

-- the name of a field, and then the string
headed : (fs : List Frame) (ks : List Key) (f s : Token) (t : Test) (ts : List Token) (o : Option (List ℕ)) → string_in f ≡ o
    → option_and_then (λ f. option_map (tested.Field f) (string_in s)) o ≡ Some t
    → after_tokens (Some (reading fs ks (want.Argument needs.Name))) (f ∷ s ∷ ts) ≡ after_tokens (Some (settled fs (test t ∷ ks))) ts
headed fs ks f s t ts None is whole = cc
headed fs ks f s t ts (Some name) is whole =
    after_tokens-cons _ _ _
    ∙ ap (λ (r : Option Reading). after_tokens r (s ∷ ts)) (at_argument fs ks needs.Name f ∙ ap (option_map (λ name. reading fs ks (want.Argument (needs.Field name)))) is)
    ∙ given fs ks (needs.Field name) s t ts refl whole

same_test : (a b : Test) → Some a ≡ Some b → a ≡ b
same_test a b e = cc

-- a test of one token
alone : (fs : List Frame) (ks : List Key) (name : List ℕ) (o : Opening) (a t : Test) (rest : List Token) → opening_of name ≡ Some o
    → begun fs ks name o ≡ Some (settled fs (test a ∷ ks)) → Some a ≡ Some t
    → after_tokens (Some (reading fs ks want.Key)) (run name ∷ rest) ≡ after_tokens (Some (settled fs (test t ∷ ks))) rest
alone fs ks name o a t rest is by e =
    named fs ks name o rest is ∙ ap (λ (r : Option Reading). after_tokens r rest) by ∙ ap (λ (m : Test). after_tokens (Some (settled fs (test m ∷ ks))) rest) (same_test a t e)

-- a test with an argument
argued_test : (fs : List Frame) (ks : List Key) (name : List ℕ) (o : Opening) (a : Argument) (s : Token) (t : Test) (rest : List Token) → opening_of name ≡ Some o
    → begun fs ks name o ≡ Some (reading fs ks (want.Argument a)) → argued fs ks a s ≡ option_map (λ m. settled fs (test m ∷ ks)) (made a s) → made a s ≡ Some t
    → after_tokens (Some (reading fs ks want.Key)) (run name ∷ s ∷ rest) ≡ after_tokens (Some (settled fs (test t ∷ ks))) rest
argued_test fs ks name o a s t rest is by last whole =
    named fs ks name o (s ∷ rest) is ∙ ap (λ (r : Option Reading). after_tokens r (s ∷ rest)) by ∙ given fs ks a s t rest last whole

no_test : (t : Test) (A : Type 0) → None ≡ Some t → A
no_test t A e = cc

-- a test is read, by what its name begins
test_begun : (fs : List Frame) (ks : List Key) (name : List ℕ) (o : Opening) (ts : List Token) (t : Test) (rest : List Token) → opening_of name ≡ Some o → test_with name o ts ≡ Some t
    → after_tokens (Some (reading fs ks want.Key)) (run name ∷ (ts ++ rest)) ≡ after_tokens (Some (settled fs (test t ∷ ks))) rest
test_begun fs ks name All [] t rest is e = alone fs ks name All tested.All t rest is refl e
test_begun fs ks name All (s ∷ ts) t rest is e = no_test t _ e
test_begun fs ks name (Is fact wanted) [] t rest is e = alone fs ks name (Is fact wanted) (tested.Is fact wanted) t rest is refl e
test_begun fs ks name (Is fact wanted) (s ∷ ts) t rest is e = no_test t _ e
test_begun fs ks name Field [] t rest is e = no_test t _ e
test_begun fs ks name Field (s ∷ []) t rest is e = argued_test fs ks name Field (needs.Field name) s t rest is refl refl e
test_begun fs ks name Field (s ∷ u ∷ ts) t rest is e = no_test t _ e
test_begun fs ks name Header [] t rest is e = no_test t _ e
test_begun fs ks name Header (s ∷ []) t rest is e = no_test t _ e
test_begun fs ks name Header (f ∷ s ∷ []) t rest is e = named fs ks name Header (f ∷ s ∷ rest) is ∙ headed fs ks f s t rest (string_in f) refl e
test_begun fs ks name Header (f ∷ s ∷ u ∷ ts) t rest is e = no_test t _ e
test_begun fs ks name Body [] t rest is e = no_test t _ e
test_begun fs ks name Body (s ∷ []) t rest is e = argued_test fs ks name Body needs.Body s t rest is refl refl e
test_begun fs ks name Body (s ∷ u ∷ ts) t rest is e = no_test t _ e
test_begun fs ks name Text [] t rest is e = no_test t _ e
test_begun fs ks name Text (s ∷ []) t rest is e = argued_test fs ks name Text needs.Text s t rest is refl refl e
test_begun fs ks name Text (s ∷ u ∷ ts) t rest is e = no_test t _ e
test_begun fs ks name Larger [] t rest is e = no_test t _ e
test_begun fs ks name Larger (s ∷ []) t rest is e = argued_test fs ks name Larger needs.Larger s t rest is refl refl e
test_begun fs ks name Larger (s ∷ u ∷ ts) t rest is e = no_test t _ e
test_begun fs ks name Smaller [] t rest is e = no_test t _ e
test_begun fs ks name Smaller (s ∷ []) t rest is e = argued_test fs ks name Smaller needs.Smaller s t rest is refl refl e
test_begun fs ks name Smaller (s ∷ u ∷ ts) t rest is e = no_test t _ e
test_begun fs ks name (Day clock order) [] t rest is e = no_test t _ e
test_begun fs ks name (Day clock order) (s ∷ []) t rest is e = argued_test fs ks name (Day clock order) (needs.Day clock order) s t rest is refl refl e
test_begun fs ks name (Day clock order) (s ∷ u ∷ ts) t rest is e = no_test t _ e
test_begun fs ks name Not ts t rest is e = no_test t _ e
test_begun fs ks name Or ts t rest is e = no_test t _ e

test_named : (fs : List Frame) (ks : List Key) (name : List ℕ) (o : Option Opening) (ts : List Token) (t : Test) (rest : List Token)
    → opening_of name ≡ o → option_and_then (λ opening. test_with name opening ts) o ≡ Some t
    → after_tokens (Some (reading fs ks want.Key)) (run name ∷ (ts ++ rest)) ≡ after_tokens (Some (settled fs (test t ∷ ks))) rest
test_named fs ks name None ts t rest is e = no_test t _ e
test_named fs ks name (Some o) ts t rest is e = test_begun fs ks name o ts t rest is e

test_read : (fs : List Frame) (ks : List Key) (ts : List Token) (t : Test) (rest : List Token) → test_of ts ≡ Some t
    → after_tokens (Some (reading fs ks want.Key)) (ts ++ rest) ≡ after_tokens (Some (settled fs (test t ∷ ks))) rest
test_read fs ks [] t rest e = no_test t _ e
test_read fs ks (opener ∷ ts) t rest e = no_test t _ e
test_read fs ks (closer ∷ ts) t rest e = no_test t _ e
test_read fs ks (gap ∷ ts) t rest e = no_test t _ e
test_read fs ks (run name ∷ ts) t rest e = test_named fs ks name (opening_of name) ts t rest refl e
test_read fs ks (quoted bs ∷ ts) t rest e = no_test t _ e
test_read fs ks (bad ∷ ts) t rest e = no_test t _ e

-- a name that opens a frame
framed : (fs : List Frame) (ks : List Key) (name : List ℕ) (o : Opening) (f : Frame) (ts : List Token) → opening_of name ≡ Some o → begun fs ks name o ≡ opened fs ks f → length fs < 64
    → after_tokens (Some (reading fs ks want.Key)) (run name ∷ ts) ≡ after_tokens (Some (reading (f ∷ fs) ks want.Key)) ts
framed fs ks name o f ts is by lt = named fs ks name o ts is ∙ ap (λ (r : Option Reading). after_tokens r ts) (by ∙ opened-some fs ks f lt)

grouped : (fs : List Frame) (ks : List Key) (ts : List Token) → length fs < 64 → after_tokens (Some (reading fs ks want.Key)) (opener ∷ ts) ≡ after_tokens (Some (reading (Group ∷ fs) ks want.Key)) ts
grouped fs ks ts lt = after_tokens-cons _ _ _ ∙ ap (λ (r : Option Reading). after_tokens r ts) (at_key fs ks opener ∙ opened-some fs ks Group lt)

ungrouped : (fs : List Frame) (ks : List Key) (ts : List Token) → after_tokens (Some (reading (More ∷ fs) ks want.Key)) (closer ∷ ts) ≡ after_tokens (Some (settled fs ks)) ts
ungrouped fs ks ts = after_tokens-cons _ _ _ ∙ ap (λ (r : Option Reading). after_tokens r ts) (at_key (More ∷ fs) ks closer)

mutual
  unfolding settled

  pub key_read : {n : ℕ} {k : Key} {ts : List Token} → IsKey n k ts → (fs : List Frame) (ks : List Key) (rest : List Token) → n + length fs ≡ 64
      → after_tokens (Some (reading fs ks want.Key)) (ts ++ rest) ≡ after_tokens (Some (settled fs (k ∷ ks))) rest
  key_read (is_test {n} {t} {ts} h) fs ks rest deep = test_read fs ks ts t rest h
  key_read (is_not {n} {name} {k} {ts} is h) fs ks rest deep =
      framed fs ks name Not Negation (ts ++ rest) is refl (omega arith) ∙ key_read h (Negation ∷ fs) ks rest (omega arith)
  key_read (is_or {n} {name} {a} {b} {us} {vs} is h g) fs ks rest deep =
      framed fs ks name Or First ((us ++ vs) ++ rest) is refl (omega arith)
      ∙ ap (after_tokens (Some (reading (First ∷ fs) ks want.Key))) (append_assoc us vs rest)
      ∙ key_read h (First ∷ fs) ks (vs ++ rest) (omega arith) ∙ key_read g (Second ∷ fs) (a ∷ ks) rest (omega arith)
  key_read (is_group {n} {k} {ts} h) fs ks rest deep =
      grouped fs ks ((ts ++ closer ∷ []) ++ rest) (omega arith)
      ∙ ap (after_tokens (Some (reading (Group ∷ fs) ks want.Key))) (append_assoc ts (closer ∷ []) rest)
      ∙ keys_read h fs ks (closer ∷ rest) (omega arith) ∙ ungrouped fs (k ∷ ks) rest

  pub keys_read : {n : ℕ} {k : Key} {ts : List Token} → AreKeys n k ts → (fs : List Frame) (ks : List Key) (rest : List Token) → n + suc (length fs) ≡ 64
      → after_tokens (Some (reading (Group ∷ fs) ks want.Key)) (ts ++ rest) ≡ after_tokens (Some (reading (More ∷ fs) (k ∷ ks) want.Key)) rest
  keys_read (is_one {n} {k} {ts} h) fs ks rest deep = key_read h (Group ∷ fs) ks rest (omega arith)
  keys_read (are_more {n} {a} {b} {us} {vs} h g) fs ks rest deep =
      ap (after_tokens (Some (reading (Group ∷ fs) ks want.Key))) (append_assoc us vs rest)
      ∙ keys_read h fs ks (vs ++ rest) deep ∙ key_read g (More ∷ fs) (a ∷ ks) rest (omega arith)

-- the tokens of a criterion are read to its key
pub criterion_read : (k : Key) (ts : List Token) → IsKey 64 k ts → after_tokens (Some start) ts ≡ Some (reading [] (k ∷ []) want.Nothing)
unfolding settled
criterion_read k ts h = ap (after_tokens (Some start)) (sym (append-nil ts)) ∙ key_read h [] [] [] (omega arith) ∙ after_tokens-nil _
