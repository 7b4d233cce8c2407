-- Each case of the rule has its own row.
use mathlib.Core.Path.{refl}
use mathlib.Core.Logic.{◌⊎◌, inl, inr}
use Rattle.rules.specs.declared.Rule.TheVariants.{LowerCase, UpperCase, LetterRemoval, OwnLiteral, LiteralRemoval}
use Rattle.listing_write.proofs.RowNumbers.{row_numbered}
use Rattle.listing_write.proofs.numbers.row_number.Goals as goal

either : {A B C : Type 0} → (A → C) → (B → C) → A ⊎ B → C
either f g (inl a) = f a
either f g (inr b) = g b

pub returns-in-OwnLiteral : goal.returns-in-OwnLiteral
returns-in-OwnLiteral c = either (λ e. row_numbered _ c.requires.0 _ (OwnLiteral c.in-OwnLiteral.j) _ e c.requires.1 refl) (λ e. row_numbered _ c.requires.0 _ (LiteralRemoval c.in-OwnLiteral.j) _ e c.requires.1 refl) c.in-OwnLiteral.is

pub returns-in-OwnLiteral-2 : goal.returns-in-OwnLiteral-2
returns-in-OwnLiteral-2 c = either (λ e. row_numbered _ c.requires.0 _ (OwnLiteral c.in-OwnLiteral.j) _ e c.requires.1 refl) (λ e. row_numbered _ c.requires.0 _ (LiteralRemoval c.in-OwnLiteral.j) _ e c.requires.1 refl) c.in-OwnLiteral.is

pub returns-in-LowerCase : goal.returns-in-LowerCase
returns-in-LowerCase c = either (λ e. row_numbered _ c.requires.0 _ (LowerCase c.in-LowerCase.i) _ e c.requires.1 refl) (either (λ e. row_numbered _ c.requires.0 _ (UpperCase c.in-LowerCase.i) _ e c.requires.1 refl) (λ e. row_numbered _ c.requires.0 _ (LetterRemoval c.in-LowerCase.i) _ e c.requires.1 refl)) c.in-LowerCase.is

pub returns-in-LowerCase-2 : goal.returns-in-LowerCase-2
returns-in-LowerCase-2 c = either (λ e. row_numbered _ c.requires.0 _ (LowerCase c.in-LowerCase.i) _ e c.requires.1 refl) (either (λ e. row_numbered _ c.requires.0 _ (UpperCase c.in-LowerCase.i) _ e c.requires.1 refl) (λ e. row_numbered _ c.requires.0 _ (LetterRemoval c.in-LowerCase.i) _ e c.requires.1 refl)) c.in-LowerCase.is

pub returns-in-LowerCase-3 : goal.returns-in-LowerCase-3
returns-in-LowerCase-3 c = either (λ e. row_numbered _ c.requires.0 _ (LowerCase c.in-LowerCase.i) _ e c.requires.1 refl) (either (λ e. row_numbered _ c.requires.0 _ (UpperCase c.in-LowerCase.i) _ e c.requires.1 refl) (λ e. row_numbered _ c.requires.0 _ (LetterRemoval c.in-LowerCase.i) _ e c.requires.1 refl)) c.in-LowerCase.is
