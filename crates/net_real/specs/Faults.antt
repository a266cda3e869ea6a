-- How often the kinds of the machine have failed.
use Rattle.std.specs.Prelude.{ℕ}
use Rattle.net_real.specs.declared.net.MioNet.{MioNet}
use Rattle.net_real.specs.declared.disk_tree.DiskTree.{DiskTree}
use Rattle.net_real.specs.declared.file_spills.FileSpills.{FileSpills}
use Rattle.net_real.specs.declared.std_sink.StdSink.{StdSink}

-- how often a bind has failed
abbrev pub bind_faults_of : {R : Type 0} → MioNet R → ℕ
bind_faults_of net = net.bind_faults

-- how often a poll or an accept has failed
abbrev pub poll_faults_of : {R : Type 0} → MioNet R → ℕ
poll_faults_of net = net.poll_faults

-- the faults of the entries that were settled
abbrev pub tree_faults_of : {R : Type 0} → DiskTree R → ℕ
tree_faults_of tree = tree.faults

-- the faults of the spills that were settled
abbrev pub spills_faults_of : {R : Type 0} → FileSpills R → ℕ
spills_faults_of spills = spills.faults

-- how often a write has failed
abbrev pub sink_faults_of : {R : Type 0} → StdSink R → ℕ
sink_faults_of sink = sink.faults
