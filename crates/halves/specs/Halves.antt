-- A number of 64 bits as two of 32; each is read back from the other. Assumes nothing.
use Rattle.std.specs.Prelude.{ℕ, ◌+◌, ◌*◌, ◌/◌, ◌%◌, ◌<◌, ◌≡◌}
use Rattle.std.proofs.Common.{◌∙◌, arith, zero-add, mod-eq_of_lt}
use Rattle.std.proofs.Math.Nat.{mod-add-div', add-mul-mod_self_right, add-mul-div_right, div-eq_of_lt}

abbrev pub half : ℕ
half = 4294967296

abbrev pub join : ℕ → ℕ → ℕ
join low high = low + high * half

abbrev pub low_of : ℕ → ℕ
low_of n = n % half

abbrev pub high_of : ℕ → ℕ
high_of n = n / half

pub join_back : (n : ℕ) → join (low_of n) (high_of n) ≡ n
join_back n = mod-add-div' n half

module _ (low high : ℕ) (h : low < half) where
  pub low_back : low_of (join low high) ≡ low
  low_back = add-mul-mod_self_right low high half ∙ mod-eq_of_lt h

  pub high_back : high_of (join low high) ≡ high
  high_back = add-mul-div_right low high {z = half} (omega arith) ∙ rw (div-eq_of_lt h) (zero-add high)
