use Rattle.std.proofs.Common.{ap, ◌∙◌, arith}
use Rattle.alias_groups.specs.Entries.{groups_in}
use Rattle.alias_groups.proofs.EntryLemmas.{Cache, put-view, same_key}
use Rattle.lru.specs.LruCache.{demoted}
use Rattle.alias_groups.proofs.aliases.push.Goals as goal

pub returns-clause-ok : goal.returns-clause-ok
returns-clause-ok c =
    ap (λ (cache : Cache). groups_in cache.entries) c.demote.ensures.entries
    ∙ ap (λ (cache : Cache). groups_in (demoted (same_key c.args.name.now) cache.entries)) c.in_ok-put.ensures.entries
    ∙ put-view c.args.groups.now c.in_ok-key.key c.args.members c.args.name.now (c.in_ok-key.ensures.items_if_clones_equal (λ x y e. e)) c.requires
    (let len = c.len.ensures.len in let cap = c.cap.ensures in let got = c.get.ensures.value in let room = c.if-len-get.false in omega arith)
