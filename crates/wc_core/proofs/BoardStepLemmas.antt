-- What becomes of the board, put together.
use Rattle.std.proofs.Common.{◌≡◌, ℕ, List, [], ◌∷◌, ◌++◌, Option, None, Some, refl, subst}
use Rattle.wc_board.specs.BoardView.{BoardView}
use Rattle.wc_core.specs.CoreView.{CoreView}
use Rattle.wc_core.specs.BoardSteps.{board_of, BoardStep, StepsThrough, BoardSteps, IsBy, ThroughBy, StepsBy, Tells, Pushes, Answers, Loses, Keeps, Skips}

pub steps-none : (board : BoardView) → BoardSteps board board
steps-none board = record { boards = []; steps = refl }

pub steps-one : (old new : BoardView) → BoardStep old new → BoardSteps old new
steps-one old new step = record { boards = new ∷ []; steps = (step, refl) }

through-both : (first more : List BoardView) (a b c : BoardView) → StepsThrough first a b → StepsThrough more b c → StepsThrough (first ++ more) a c
through-both [] more a b c same then = let P : BoardView → Type 0 = λ board. StepsThrough more board c in subst P same then
through-both (next ∷ first) more a b c steps then = (steps.0, through-both first more next b c steps.1 then)

pub steps-both : (a b c : BoardView) → BoardSteps a b → BoardSteps b c → BoardSteps a c
steps-both a b c f g = record { boards = f.boards ++ g.boards; steps = through-both f.boards g.boards a b c f.steps g.steps }

-- the board is the same
pub steps-same : (old new : CoreView) → board_of new ≡ board_of old → BoardSteps (board_of old) (board_of new)
steps-same old new same = record { boards = []; steps = same }

-- ---- by whom

pub by-same : {own : Option ℕ} → (old new : BoardView) → new ≡ old → StepsBy own old new
by-same old new same = record { boards = []; steps = same }

pub by-one : {own : Option ℕ} → (old new : BoardView) → (step : BoardStep old new) → IsBy own old new step → StepsBy own old new
by-one old new step is = record { boards = new ∷ []; steps = (record { step = step; by = is }, refl) }

by-through : (own : Option ℕ) (first more : List BoardView) (a b c : BoardView) → ThroughBy own first a b → ThroughBy own more b c → ThroughBy own (first ++ more) a c
by-through own [] more a b c same then = let P : BoardView → Type 0 = λ board. ThroughBy own more board c in subst P same then
by-through own (next ∷ first) more a b c steps then = (steps.0, by-through own first more next b c steps.1 then)

pub by-both : {own : Option ℕ} → (a b c : BoardView) → StepsBy own a b → StepsBy own b c → StepsBy own a c
by-both {own} a b c f g = record { boards = f.boards ++ g.boards; steps = by-through own f.boards g.boards a b c f.steps g.steps }

by-anyone : (own : Option ℕ) (old new : BoardView) (step : BoardStep old new) → IsBy None old new step → IsBy own old new step
by-anyone own old new (Tells told) is = tt
by-anyone own old new (Pushes pushed) is = tt
by-anyone own old new (Answers answer) is = absurd (let q : None ≡ Some answer.link = is in cc)
by-anyone own old new (Loses loss) is = absurd (let q : None ≡ Some loss.link = is in cc)
by-anyone own old new (Keeps kept) is = tt
by-anyone own old new (Skips skipped) is = absurd is

by-all : (own : Option ℕ) (boards : List BoardView) (a b : BoardView) → ThroughBy None boards a b → ThroughBy own boards a b
by-all own [] a b same = same
by-all own (next ∷ boards) a b steps = (record { step = steps.0.step; by = by-anyone own a next steps.0.step steps.0.by }, by-all own boards next b steps.1)

-- what no client did is done whoever is served
pub by-any : (own : Option ℕ) (a b : BoardView) → StepsBy None a b → StepsBy own a b
by-any own a b f = record { boards = f.boards; steps = by-all own f.boards a b f.steps }
