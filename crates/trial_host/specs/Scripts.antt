-- The outside over hosts whose input is the lines of a trial.
use Rattle.host_port.specs.Calls.{World}
use Rattle.host_memory.specs.declared.memory.MemHost.{MemHost}
use Rattle.host_memory.specs.MemHosts.{host_start, host_told, host_counts}
use Rattle.trial_host.specs.declared.scripted.Scripted.{Scripted}

abbrev pub memory_of : Scripted → MemHost
memory_of s = s.memory

abbrev pub scripted_world : World Scripted
scripted_world = record { start = λ s. host_start s.memory; told = λ s. host_told s.memory; counts = λ s. host_counts s.memory }
