-- What a clause sees of an epoch, the struct of src/time.rt: document 01, 'Numbers used': "An epoch is an MJD day d and a UTC millisecond u of that
-- day, 0 to 86,399,999". The definitions take any two numbers.
use Rattle.std.specs.Prelude.{ℤ}

pub record Instant : Type 0 where
  pub day : ℤ
  pub ms : ℤ
