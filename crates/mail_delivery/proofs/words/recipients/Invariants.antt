use Rattle.std.proofs.Common.{◌≡◌, ◌≤◌, true, take, length}
use Rattle.std.specs.List.{list_all}
use Rattle.mail_delivery.specs.Words.{is_recipient, each_once, user_limit}
use Rattle.mail_delivery.proofs.words.recipients.Given as goal

abbrev pub invariant-loop-user : goal.invariant-loop-user
invariant-loop-user l = record {
  names : l.names ≡ each_once (take l.user-index l.users);
  all : list_all is_recipient (take l.user-index l.users) ≡ true;
  few : length l.names ≤ user_limit;
}
