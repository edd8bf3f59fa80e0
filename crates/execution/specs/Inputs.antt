-- What a step is given besides the record and the pages.
use Rattle.std.specs.Prelude.{ℕ, Bool, false, Option, Some, None, ◌==◌}
use Rattle.execution.specs.declared.Inputs.{Inputs}

-- the keyboard byte, the idle figure of document 02's F-1, 0 to 255, and F-5's stop address, if one is given
abbrev pub inputs_of : ℕ → ℕ → Option ℕ → Inputs
inputs_of key idle stop = record { keyboard = key; idle = idle; stop_address = stop }

-- the keyboard byte, and nothing else asked for
abbrev pub of_keyboard : ℕ → Inputs
of_keyboard key = inputs_of key 0 None

-- the same inputs without a stop address
abbrev pub without_stop : Inputs → Inputs
without_stop inputs = record inputs { stop_address = None }

-- "P equals the stop address"; where none is given it does not
abbrev pub equals_address : Option ℕ → ℕ → Bool
equals_address None p = false
equals_address (Some address) p = address == p

abbrev pub stops_at : Inputs → ℕ → Bool
stops_at inputs p = equals_address inputs.stop_address p
