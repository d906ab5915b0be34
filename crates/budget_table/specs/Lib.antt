pub mod Budgets
pub mod WorkedBudgets
