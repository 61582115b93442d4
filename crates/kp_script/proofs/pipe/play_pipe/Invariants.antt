use Rattle.std.proofs.Common.{◌≡◌, ◌≤◌, ℕ, List, Option, length}
use Rattle.std.specs.Io.KnownBytes.{Appends}
use Rattle.kp_types.specs.Devices.{device_of, faults_of}
use Rattle.kp_script.specs.Piped.{counted_in}
use Rattle.kp_script.specs.Piping.{HasNodes, Stands}
use Rattle.kp_script.specs.Reads.{Reads, read_faults, reader_of}
use Rattle.kp_script.proofs.pipe.play_pipe.Given as goal

abbrev pub invariant-loop-read : goal.invariant-loop-read
invariant-loop-read g l = record {
  so_far : (lines : List (Option (List ℕ))) × (text : List ℕ) × (length lines ≡ l.read)
      × Reads (g.R.Read.remaining (reader_of l.fn.reader)) (g.R.Read.remaining (reader_of l.reader)) lines
      × Stands (counted_in lines) text l.refused l.running
      × Appends (g.W.Write.contents (device_of l.fn.writer)) (g.W.Write.contents (device_of l.writer)) text;
  nodes : HasNodes l.running;
  few : l.refused ≤ l.read;
  read_same : read_faults l.reader ≡ read_faults l.fn.reader;
  written_same : faults_of l.writer ≡ faults_of l.fn.writer;
}
