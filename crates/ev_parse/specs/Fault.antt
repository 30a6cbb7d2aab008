-- Where tokens cease to begin a rule file.
use Rattle.std.specs.Prelude.{◌≡◌, ℕ, ◌+◌, ◌-◌, ◌<◌, ◌≤◌, List, [], ◌∷◌, ◌++◌, length, take, drop}
use Rattle.ev_lex.specs.declared.token.Token.{Token}
use Rattle.ev_tree.specs.Grammar.{file}
use Rattle.ev_tree.specs.Rule.{Rule}
use Rattle.ev_tree.specs.Tok.{Tok}
use Rattle.ev_parse.specs.Toks.{toks}
use Rattle.ev_parse.specs.declared.stop.ParseStop.{ParseStop}
use Rattle.ev_parse.specs.declared.stop.ParseStop.TheVariants as stops
use Rattle.ev_parse.specs.declared.fault.ParseFault.{ParseFault}
use Rattle.ev_parse.specs.declared.fault.ParseFault.TheVariants as faults

-- some rule file begins with these tokens
pub record BeginsFile (ts : List Tok) : Type 0 where
  pub rules : List Rule
  pub more : List Tok
  pub spelled : file rules (ts ++ more)

-- Some rule file begins with the tokens before the one of this number, none with that one too, and
-- the tokens are no rule file.
pub record IsParseFault (ts : List Tok) (number : ℕ) : Type 0 where
  pub within : number ≤ length ts
  pub before : BeginsFile (take number ts)
  pub refused : number < length ts → BeginsFile (take (number + 1) ts) → ⊥
  pub missing : (rules : List Rule) → file rules ts → ⊥

-- the first byte of the first token, or the end of the text
abbrev pub place_from : ℕ → List Token → ℕ
place_from end [] = end
place_from end (t ∷ ts) = t.from

-- at this byte is the token at which the tokens cease to begin a rule file, or the text ends there
-- too early
pub record FaultAt (text : List ℕ) (tokens : List Token) (place : ℕ) : Type 0 where
  pub number : ℕ
  pub fault : IsParseFault (toks text tokens) number
  pub stands : place ≡ place_from (length text) (drop number tokens)

-- what a fault says of the tokens of a text
abbrev pub IsFaultOfText : List ℕ → List Token → ParseFault → Type 0
IsFaultOfText text tokens (faults.At place) = FaultAt text tokens place
IsFaultOfText text tokens faults.NoMemory = Unit {0}

-- the fault that a stop is: at the first of the tokens that are left
abbrev pub fault_from : ℕ → List Token → ParseStop → ParseFault
fault_from end tokens stops.NoMemory = faults.NoMemory
fault_from end tokens (stops.At rest) =
    faults.At (place_from end (drop (length tokens - length rest.now) tokens))
