use Rattle.mail_dates.proofs.ArrivalRoundTrip.{arrival_reads_back}
use Rattle.draft_text.proofs.laws.an_opening_line_reads_back.Goals as goal

pub returns : goal.returns
returns c user m range word = arrival_reads_back user m word range
