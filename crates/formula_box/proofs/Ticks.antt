-- How many steps the powers of a formula take.
use Rattle.std.specs.Prelude.{◌≡◌, ℕ, zero, suc, ◌+◌, ◌-◌, ◌≤◌, ℤ, pos, negsuc, ◌<ℤ◌, unsigned_abs, refl}
use Rattle.std.proofs.Common.{arith, ◌∙◌, ap}
use Rattle.std.proofs.lemmas.Int.{ints}
use Rattle.fixed_interval.specs.Powers.{power_steps, steps_of_power}
use Rattle.formula_ast.specs.Trees.{Tree, Raised, IsExponent}
use Rattle.formula_box.specs.Costs.{partial_cost}

-- the powers by up to 9, one by one
pub record Takes (k n : ℕ) : Type 0 where
  pub steps : power_steps k ≡ n

steps_1 : Takes 1 0
unfolding power_steps
steps_1 = record { steps = refl }

steps_2 : Takes 2 1
unfolding power_steps
steps_2 = record { steps = refl }

steps_3 : Takes 3 2
unfolding power_steps
steps_3 = record { steps = refl }

steps_4 : Takes 4 2
unfolding power_steps
steps_4 = record { steps = refl }

steps_5 : Takes 5 3
unfolding power_steps
steps_5 = record { steps = refl }

steps_6 : Takes 6 3
unfolding power_steps
steps_6 = record { steps = refl }

steps_7 : Takes 7 4
unfolding power_steps
steps_7 = record { steps = refl }

steps_8 : Takes 8 3
unfolding power_steps
steps_8 = record { steps = refl }

steps_9 : Takes 9 4
unfolding power_steps
steps_9 = record { steps = refl }

pub few_steps : (k : ℕ) → 1 ≤ k → k ≤ 9 → power_steps k ≤ 4
few_steps zero h m = absurd (omega (arith, h))
few_steps (suc zero) h m = omega (arith, steps_1.steps)
few_steps (suc (suc zero)) h m = omega (arith, steps_2.steps)
few_steps (suc (suc (suc zero))) h m = omega (arith, steps_3.steps)
few_steps (suc (suc (suc (suc zero)))) h m = omega (arith, steps_4.steps)
few_steps (suc (suc (suc (suc (suc zero))))) h m = omega (arith, steps_5.steps)
few_steps (suc (suc (suc (suc (suc (suc zero)))))) h m = omega (arith, steps_6.steps)
few_steps (suc (suc (suc (suc (suc (suc (suc zero))))))) h m = omega (arith, steps_7.steps)
few_steps (suc (suc (suc (suc (suc (suc (suc (suc zero)))))))) h m = omega (arith, steps_8.steps)
few_steps (suc (suc (suc (suc (suc (suc (suc (suc (suc zero))))))))) h m = omega (arith, steps_9.steps)
few_steps (suc (suc (suc (suc (suc (suc (suc (suc (suc (suc k)))))))))) h m = absurd (omega (arith, m))

-- a power and the one below it
pub few_steps_together : (k : ℕ) → 2 ≤ k → k ≤ 9 → power_steps (k - 1) + power_steps k ≤ 7
few_steps_together zero h m = absurd (omega (arith, h))
few_steps_together (suc zero) h m = absurd (omega (arith, h))
few_steps_together (suc (suc zero)) h m = omega (arith, steps_1.steps, steps_2.steps)
few_steps_together (suc (suc (suc zero))) h m = omega (arith, steps_2.steps, steps_3.steps)
few_steps_together (suc (suc (suc (suc zero)))) h m = omega (arith, steps_3.steps, steps_4.steps)
few_steps_together (suc (suc (suc (suc (suc zero))))) h m = omega (arith, steps_4.steps, steps_5.steps)
few_steps_together (suc (suc (suc (suc (suc (suc zero)))))) h m = omega (arith, steps_5.steps, steps_6.steps)
few_steps_together (suc (suc (suc (suc (suc (suc (suc zero))))))) h m = omega (arith, steps_6.steps, steps_7.steps)
few_steps_together (suc (suc (suc (suc (suc (suc (suc (suc zero)))))))) h m = omega (arith, steps_7.steps, steps_8.steps)
few_steps_together (suc (suc (suc (suc (suc (suc (suc (suc (suc zero))))))))) h m = omega (arith, steps_8.steps, steps_9.steps)
few_steps_together (suc (suc (suc (suc (suc (suc (suc (suc (suc (suc k)))))))))) h m = absurd (omega (arith, m))

pub few_steps_of_power : (k : ℤ) → IsExponent k → steps_of_power k ≤ 6
few_steps_of_power (pos zero) h = absurd (h.nonzero refl)
few_steps_of_power (pos (suc k)) h = omega (arith, few_steps (suc k) (omega arith) (omega (arith, ints, h.most)))
few_steps_of_power (negsuc k) h = omega (arith, few_steps (suc k) (omega arith) (omega (arith, ints, h.least)))

pub steps_of_size : (k : ℤ) → pos 0 <ℤ k → steps_of_power k ≡ power_steps (unsigned_abs k)
steps_of_size (pos k) h = refl
steps_of_size (negsuc k) h = absurd (omega (arith, ints, h))

-- a power by k - 1 was found, beside which the power by k itself was
pub rising_ticks : (k a b : ℕ) (z : ℤ) → b ≤ a + steps_of_power z → z ≡ pos (k - 1) → 2 ≤ k → k ≤ 9 → b + power_steps k ≤ a + 7
rising_ticks k a b z h e least most =
    let same : steps_of_power z ≡ power_steps (k - 1) = ap steps_of_power e in
    omega (arith, few_steps_together k least most, same, h)

-- a power is one node
pub power_ticks : (a : Tree) (k z : ℤ) (before base after : ℕ) → IsExponent k → z ≡ k
    → base ≤ before + partial_cost a → after ≤ base + steps_of_power z → after ≤ before + partial_cost (Raised a k)
power_ticks a k z before base after h e b p = omega (arith, few_steps_of_power k h, b, rw e at p)

pub same_steps : (k z : ℤ) (n : ℕ) → n ≡ unsigned_abs z → z ≡ k → power_steps n ≡ power_steps (unsigned_abs k)
same_steps k z n h e = ap power_steps (h ∙ ap unsigned_abs e)
