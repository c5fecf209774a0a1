use Rattle.std.proofs.Common.{◌≡◌, ◌≤◌, drop}
use Rattle.line_words.specs.Words.{words_by}
use Rattle.line_words.specs.Cutting.{gives, depth_of, IsReady}
use Rattle.line_words.proofs.cut.words_by.Given as goal

-- what was read and the bytes that are left give what the line gives
abbrev pub invariant-loop-byte : goal.invariant-loop-byte
invariant-loop-byte l = record {
  same : gives l.lists l.place l.words l.word (drop l.byte-index l.bytes) ≡ words_by l.lists l.bytes;
  ready : IsReady l.place l.word;
  fits : depth_of l.place ≤ l.byte-index;
}
