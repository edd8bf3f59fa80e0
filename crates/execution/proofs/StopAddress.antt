-- The test of the stop address is document 02's "P equals the stop address".
use Rattle.std.proofs.Common.{◌≡◌, ℕ, true, false, ◌↔◌, ◌≢◌, sym, ap, ◌∙◌, true≢false, eq-eqb, eqb-true}
use mathlib.Core.Bool.{not-eq-not}
use Rattle.std.specs.Prelude.{Option, Some, None}
use Rattle.execution.specs.declared.Inputs.{Inputs}
use Rattle.execution.specs.Inputs.{equals_address, stops_at}

equals_is : (address : Option ℕ) (p : ℕ) → (equals_address address p ≡ true) ↔ (address ≡ Some p)
equals_is None p = (λ e. absurd (true≢false (sym e)), λ e. absurd (true≢false cc))
equals_is (Some a) p = (λ e. ap Some (eqb-true a p e), λ e. let same : a ≡ p = cc in eq-eqb a p same)

module _ (inputs : Inputs) (p : ℕ) where
  pub stops_at_is : (stops_at inputs p ≡ true) ↔ (inputs.stop_address ≡ Some p)
  stops_at_is = equals_is inputs.stop_address p

  pub elsewhere_is : (stops_at inputs p ≡ false) ↔ (inputs.stop_address ≢ Some p)
  elsewhere_is = (λ e a. true≢false (sym (stops_at_is.1 a) ∙ e), λ n. not-eq-not.0 (λ t. n (stops_at_is.0 t)))
