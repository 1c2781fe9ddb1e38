-- `scan_file::promises` meets its contract: each promise is a theorem.
-- Assumes nothing.
use Rattle.scan_file.proofs.Files.{encoded_is_taken, taken_is_encoded, none_longer, fraction_stands, observation_stands, example_bytes}
use Rattle.scan_file.proofs.promises.Goals as goal

pub returns : goal.returns
returns c = record {
  encoded_is_taken = encoded_is_taken;
  taken_is_encoded = taken_is_encoded;
  none_longer = none_longer;
  fraction_stands = fraction_stands;
  observation_stands = observation_stands;
  example_bytes = example_bytes;
}
