-- The keys of a criterion, as a tree.
use Rattle.mail_search.specs.declared.criterion.Test.{Test}

-- a key: a test of the message, a key that is not to hold, two of which one is to hold, or two that are both to hold
pub data Key : Type 0 where
  test : Test → Key
  negation : Key → Key
  either : Key → Key → Key
  both : Key → Key → Key
