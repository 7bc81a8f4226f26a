mod Small
mod Accepted
mod Refused
mod RefusedLater
mod Written
